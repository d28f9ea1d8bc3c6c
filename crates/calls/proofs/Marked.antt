-- The worked routes of document 01 that are marked, as calls: one theorem over the theory's table of cases, for every output of at least 8,200 bytes and
-- every room of at least 16,384 words, without ranks; they have records of 8 bytes. The empty table, of either size. And one table with records of 16 bytes.
-- Assumes nothing.
use mathlib.Core.Path.{◌≡◌, refl, sym, ap, ap₂, subst, ◌∙◌}
use mathlib.Core.Bool.{Bool, true, false}
use mathlib.Core.List.{List, [], ◌∷◌, ◌++◌}
use mathlib.Core.Logic.{inl, inr}
use Prim.Native.Nat.{ℕ, zero, suc, ◌*◌, ◌≤◌}
use native.Mathlib.Nat.{mul-zero}
use native.Mathlib.Omega.{arith}
use lib.Dec.{T, leb, leb→le}
use lib.IntN.{ℤ, pos, negsuc, ◌-ℤ◌}
use lib.ListN.{length, drop}
use Rattle.theory.specs.Routes.{Route, none, Valid, All, nil}
use Rattle.theory.specs.Results.{Mode, aggregate_set, aggregate_consistent_map, aggregate_map_drop, aggregate_map_fill, smallest, result}
use Rattle.theory.specs.Ranks.{lowest, Ranking}
use Rattle.theory.proofs.Ranks.{lowest_chooses, unranked_result}
use Rattle.theory.proofs.Chosen.{smallest_chooses}
use Rattle.theory.proofs.Quick.{ortc_of, sets_of}
use Rattle.theory.proofs.Computed.{set_computed, drop_computed}
use Rattle.theory.proofs.Cases.{route, Case, cases, Answered, worked}
use Rattle.refusals.specs.Rules.{gives, judge}
use Rattle.records.specs.declared.Form.{Form}
use Rattle.records.specs.Forms.{size_of, masking, refusing}
use Rattle.table.specs.TableRules.{form_rules}
use Rattle.nodecount.specs.Nodes.{nodes, brought, fresh}
use Rattle.records.proofs.Octets.{all_bytes}
use Rattle.records.proofs.SizedWritten.{in_records_bytes}
use Rattle.calls.specs.Conditions.{RewriteCondition}
use Rattle.refusals.specs.Order.{None}
use Rattle.calls.specs.Rewriting.{InUse, mode_of, result_of, takes_set, Rewrites, Outcome, records_out}
use Rattle.table.proofs.SizedAccepted.{in_accepted, in_accepted_exactly}
use Rattle.records.proofs.SizedReading.{form_size}
use Rattle.table.proofs.SizedMasking.{in_accepted_any}
use Rattle.table.proofs.SizedTables.{in_accepted_table}
use Rattle.records.specs.Sized.{IsSize, width_in, bytes_in, clear, number, octets_of, record_in, raw_in, route_in, routes_from_in, routes_in}
use Rattle.table.specs.SizedRules.{record_rules_in, rules_from_in, table_rules_in}
use Rattle.calls.proofs.Masking.{choosing}
use Rattle.calls.proofs.Refusals.{answerable_exactly, no_records, empty-routes, empty-table, empty-nodes}
use Rattle.calls.proofs.Results.{rewrite_result}

-- A mode's number, and its default (0 where it is not read).
abbrev pub number_of : Mode → ℕ
number_of aggregate_set = 1
number_of aggregate_consistent_map = 3
number_of aggregate_map_drop = 4
number_of (aggregate_map_fill d) = 5

abbrev pub default_of : Mode → ℕ
default_of aggregate_set = 0
default_of aggregate_consistent_map = 0
default_of aggregate_map_drop = 0
default_of (aggregate_map_fill d) = d

mode_back : (m : Mode) → mode_of (number_of m) (default_of m) ≡ m
mode_back aggregate_set = refl
mode_back aggregate_consistent_map = refl
mode_back aggregate_map_drop = refl
mode_back (aggregate_map_fill d) = refl

number_known : (m : Mode) → InUse (number_of m)
number_known aggregate_set = (omega arith, omega arith, λ e. omega arith)
number_known aggregate_consistent_map = (omega arith, omega arith, λ e. omega arith)
number_known aggregate_map_drop = (omega arith, omega arith, λ e. omega arith)
number_known (aggregate_map_fill d) = (omega arith, omega arith, λ e. omega arith)

-- The changes that document 01 names, case by case.
unfoldable pub changes : List ℤ
changes =
    pos 0
    ∷ negsuc 0
    ∷ negsuc 0
    ∷ negsuc 0
    ∷ pos 0
    ∷ pos 0
    ∷ negsuc 1
    ∷ pos 0
    ∷ pos 0
    ∷ pos 1
    ∷ pos 0
    ∷ pos 1
    ∷ []

-- A case's call, with records of 8 bytes or, if long, of 16, under either choice on host bits: whatever satisfies the statement is the expected records with
-- the expected change, the rest of the output as it was.
abbrev pub CaseAnswered : Bool → Case → ℤ → Type 0
CaseAnswered long c change =
    (strict : Bool) (o : List ℕ) (words : ℕ) (r : Outcome) (o' w' : List ℕ) → 8200 ≤ length o → 16384 ≤ words
    → Rewrites (choosing strict long) (bytes_in (size_of (masking long)) c.table) (number_of c.mode) (default_of c.mode) [] o words r o' w'
    → (r ≡ records_out (length c.expected) change) × (o' ≡ bytes_in (size_of (masking long)) c.expected ++ drop (size_of (masking long) * length c.expected) o)

-- P holds of each case with its change, and there are as many.
abbrev pub Each : (Case → ℤ → Type 0) → List Case → List ℤ → Type 0
Each P [] [] = Unit {0}
Each P [] (d ∷ ds) = ⊥
Each P (c ∷ cs) [] = ⊥
Each P (c ∷ cs) (d ∷ ds) = P c d × Each P cs ds

-- ---- What is computed of a case.

-- Its default is in range, its bytes are accepted and read back as its routes, its nodes have room, its records fit, and the change is so.
abbrev Ready : Bool → Case → ℤ → Type 0
Ready long c change =
    T (leb (default_of c.mode) 63)
    × (judge {A = ℕ} (form_rules (refusing long) (takes_set (number_of c.mode)) (bytes_in (size_of (masking long)) c.table)) 0 ≡ gives 0)
    × (routes_in (size_of (masking long)) (bytes_in (size_of (masking long)) c.table) ≡ c.table)
    × T (leb (160 * nodes (width_in (size_of (masking long))) c.table) 16384)
    × T (leb (size_of (masking long) * length c.expected) 8200)
    × (pos (length c.expected) -ℤ pos (length c.table) ≡ change)

case_answered : (long : Bool) (c : Case) (change : ℤ) → Ready long c change → result smallest (width_in (size_of (masking long))) c.mode c.table ≡ c.expected
    → CaseAnswered long c change
unfolding result_of
case_answered long c change k e strict o words r o' w' enough wide ok =
    let f = rewrite_result form t mode default [] o words r o' w' ok none in (
      f.0 ∙ ap₂ records_out as_many (ap₂ (λ (a b : ℕ). pos a -ℤ pos b) as_many (in_records_bytes size (form_size form) c.table) ∙ k.5),
      f.1 ∙ ap (λ (rs : List Route). bytes_in size rs ++ drop (size * length rs) o) made,
    )
  where
    mode : ℕ
    mode = number_of c.mode

    default : ℕ
    default = default_of c.mode

    form : Form
    form = choosing strict long

    size : ℕ
    size = size_of form

    t : List ℕ
    t = bytes_in size c.table

    made : result (lowest []) (width_in size) (mode_of mode default) (routes_in size t) ≡ c.expected
    made = ap₂ (result (lowest []) (width_in size)) (mode_back c.mode) k.2 ∙ unranked_result (width_in size) c.mode c.table ∙ e

    as_many : length (result (lowest []) (width_in size) (mode_of mode default) (routes_in size t)) ≡ length c.expected
    as_many = ap (λ (rs : List Route). length rs) made

    none : None (RewriteCondition form t mode default [] (length o) words)
    none =
        (answerable_exactly form t mode default [] (length o) words).1 (
          record {
            known_mode = number_known c.mode;
            small_default = λ q. leb→le (default_of c.mode) 63 k.0;
            lawful_ranks = λ h. inl refl;
            accepted = in_accepted_any size strict (takes_set mode) t (in_accepted size (form_size form) true (takes_set mode) t 0 k.1);
            enough_output = subst (λ (n : ℕ). size * n ≤ length o) (sym as_many) (omega (arith, leb→le (size * length c.expected) 8200 k.4));
          },
          rw k.2 (omega (arith, leb→le (160 * nodes (width_in size) c.table) 16384 k.3)),
        )

ready : Each (Ready false) cases changes
unfolding cases changes route judge table_rules_in rules_from_in record_rules_in raw_in route_in routes_from_in routes_in bytes_in record_in octets_of nodes brought fresh clear number
ready = ((tt, refl, refl, tt, tt, refl), ((tt, refl, refl, tt, tt, refl), ((tt, refl, refl, tt, tt, refl), ((tt, refl, refl, tt, tt, refl), ((tt, refl, refl, tt, tt, refl), ((tt, refl, refl, tt, tt, refl), ((tt, refl, refl, tt, tt, refl), ((tt, refl, refl, tt, tt, refl), ((tt, refl, refl, tt, tt, refl), ((tt, refl, refl, tt, tt, refl), ((tt, refl, refl, tt, tt, refl), ((tt, refl, refl, tt, tt, refl), tt))))))))))))

each-answered : (cs : List Case) (ds : List ℤ) → Each (Ready false) cs ds → Answered cs → Each (CaseAnswered false) cs ds
each-answered [] [] k a = tt
each-answered [] (d ∷ ds) k a = absurd k
each-answered (c ∷ cs) [] k a = absurd k
each-answered (c ∷ cs) (d ∷ ds) k a = (case_answered false c d k.0 a.0, each-answered cs ds k.1 a.1)

-- The theorem over the table of cases.
pub marked : Each (CaseAnswered false) cases changes
marked = each-answered cases changes ready worked

-- ---- With records of 16 bytes: 2001:db8::/64 and 2001:db8:0:1::/64, one hop for both, are 2001:db8::/63 in mode 4.
unfoldable pub neighbours : Case
neighbours =
    record {
      mode = aggregate_map_drop;
      table = record { addr = 2306139568115548160; len = 64; hop = 7 } ∷ record { addr = 2306139568115548161; len = 64; hop = 7 } ∷ [];
      expected = record { addr = 2306139568115548160; len = 63; hop = 7 } ∷ [];
    }

neighbours_ready : Ready true neighbours (negsuc 0)
unfolding neighbours judge table_rules_in rules_from_in record_rules_in raw_in route_in routes_from_in routes_in bytes_in record_in octets_of nodes brought fresh clear number
neighbours_ready = (tt, refl, refl, tt, tt, refl)

neighbours_valid : All (Valid 64) neighbours.table
unfolding bytes_in record_in octets_of neighbours
neighbours_valid =
    subst (λ (rs : List Route). All (Valid 64) rs) neighbours_ready.2
    (in_accepted_table 16 (inr refl) true false (bytes_in 16 neighbours.table) (all_bytes (bytes_in 16 neighbours.table) refl) 0 0 neighbours_ready.1).0.table.valid

neighbours_merge : result smallest 64 aggregate_map_drop neighbours.table ≡ neighbours.expected
unfolding neighbours ortc_of sets_of
neighbours_merge = drop_computed smallest smallest_chooses 64 neighbours_valid

pub marked-long : CaseAnswered true neighbours (negsuc 0)
unfolding neighbours
marked-long = case_answered true neighbours (negsuc 0) neighbours_ready neighbours_merge

-- ---- The empty table in modes 1, 3 and 4, under any lawful ranks: 160 words and no output suffice.
no_routes : (size : ℕ) → IsSize size → (ranks : List ℕ) → ortc_of (lowest ranks) (width_in size) (width_in size) 0 none none [] ≡ []
unfolding ortc_of sets_of
no_routes size (inl e) ranks = rw e
no_routes size (inr e) ranks = rw e

of_none : (size : ℕ) → IsSize size → (mode default : ℕ) (ranks : List ℕ) → InUse mode → mode ≤ 4 → result (lowest ranks) (width_in size) (mode_of mode default) [] ≡ []
unfolding result
of_none size is zero d ranks used high = absurd (omega (arith, used.0))
of_none size is (suc zero) d ranks used high = set_computed (lowest ranks) (lowest_chooses ranks) (width_in size) nil ∙ no_routes size is ranks
of_none size is (suc (suc zero)) d ranks used high = absurd (used.2 refl)
of_none size is (suc (suc (suc zero))) d ranks used high = refl
of_none size is (suc (suc (suc (suc zero)))) d ranks used high = drop_computed (lowest ranks) (lowest_chooses ranks) (width_in size) nil ∙ no_routes size is ranks
of_none size is (suc (suc (suc (suc (suc n))))) d ranks used high = absurd (omega arith)

empty-result : (form : Form) (mode default : ℕ) (ranks : List ℕ) → InUse mode → mode ≤ 4 → result_of (size_of form) [] mode default ranks ≡ []
unfolding result_of
empty-result form mode default ranks used high =
    ap (result (lowest ranks) (width_in (size_of form)) (mode_of mode default)) (empty-routes (size_of form) (form_size form))
    ∙ of_none (size_of form) (form_size form) mode default ranks used high

-- It is answered with no record and change 0.
pub empty-answered : (form : Form) (mode default : ℕ) (ranks o : List ℕ) (words : ℕ) (r : Outcome) (o' w' : List ℕ) → InUse mode → mode ≤ 4
    → (4 ≤ mode → Ranking 64 ranks) → 160 ≤ words
    → Rewrites form [] mode default ranks o words r o' w' → (r ≡ records_out 0 (pos 0)) × (o' ≡ o)
unfolding result_of bytes_in
empty-answered form mode default ranks o words r o' w' used high ranked enough ok =
    let f = rewrite_result form [] mode default ranks o words r o' w' ok none in (
      f.0
          ∙ ap₂ (λ (rs : List Route) (n : ℕ). records_out (length rs) (pos (length rs) -ℤ pos n)) (empty-result form mode default ranks used high)
          (no_records (size_of form) (form_size form)),
      f.1
          ∙ ap (λ (rs : List Route). bytes_in (size_of form) rs ++ drop (size_of form * length rs) o) (empty-result form mode default ranks used high)
          ∙ ap (λ (n : ℕ). drop n o) (mul-zero (size_of form)),
    )
  where
    none : None (RewriteCondition form [] mode default ranks (length o) words)
    none =
        (answerable_exactly form [] mode default ranks (length o) words).1 (
          record {
            known_mode = used;
            small_default = λ e. absurd (omega arith);
            lawful_ranks = ranked;
            accepted = (in_accepted_exactly (size_of form) (form_size form) form.strict (takes_set mode) []).1 (empty-table form (takes_set mode));
            enough_output = rw (empty-result form mode default ranks used high) (omega arith);
          },
          rw (empty-nodes form) enough,
        )
