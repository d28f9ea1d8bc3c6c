-- Laws of the calls: the replies that refuse, what the walks can begin with, and the cover query at wide addresses. Assumes nothing.
use Prim.Native.Nat.{ℕ, ◌+◌, ◌-◌, ◌*◌, ◌/◌, ◌%◌, ◌^◌, ◌≤◌, ◌<◌}
use mathlib.Core.Path.{◌≡◌, refl, sym, ap, ◌∙◌, subst}
use mathlib.Core.Bool.{Bool, true, false, not, ◌||◌, ◌&&◌}
use mathlib.Core.List.{List, [], ◌∷◌}
use native.Mathlib.Nat.{mod-lt, mul-lt-mul_of_pos_right}
use native.Mathlib.Omega.{arith}
use lib.Dec.{eqb, leb}
use lib.ListN.{length}
use lib.Pow.{pow_pos, pow-add}
use borrow.Author.Tests.{le-leb, lt-leb}
use mathlib.Core.Logic.{inl, inr}
use Rattle.std.specs.Prelude.{◌⊎◌}
use Rattle.calls.specs.Modes.{mode_known}
use Rattle.refusals.specs.Numbers.{number_of}
use Rattle.refusals.specs.declared.Cause.{Cause}
use Rattle.refusals.specs.declared.Cause.TheVariants.{RetiredMode, Mode as NoMode}
use Rattle.theory.specs.Ranks.{is_ranking}
use Rattle.theory.specs.Results.{start_of, throughout}
use Rattle.theory.specs.Routes.{held, All, Aligned, Valid}
use Rattle.theory.proofs.Maximal.{throughout-agree}
use Rattle.words.proofs.PrefixLaws.{start_small}
use Rattle.table.specs.Checking.{check_reply_in}
use Rattle.table.specs.SizedConditions.{LawfulIn}
use Rattle.nodecount.specs.Nodes.{nodes}
use Rattle.refusals.specs.Rules.{Rule, rule, Reply, gives, refuses, judge}
use Rattle.records.specs.Sized.{IsSize, width_in, records_in, routes_in, Bytes}
use Rattle.records.specs.Forms.{size_of}
use Rattle.records.specs.declared.Form.{Form}
use Rattle.table.specs.TableRules.{form_rules}
use Rattle.refusals.proofs.Judged.{kept_next, broken-here, all_next, some-here}
use Rattle.records.proofs.SizedReading.{form_size, width_most, in_length_routes}
use Rattle.table.proofs.SizedTables.{hops-below, set-hops}
use Rattle.positions.specs.Wide.{widened}
use Rattle.positions.proofs.Wide.{aligned-widen, held-widen, throughout-widen, all_widen}
use Rattle.nodes.specs.Node.{wide, spare, Node}
use Rattle.nodes.proofs.OutputLaws.{width_spare}
use Rattle.gather.proofs.GatherLaws.{root-run, root-node}
use Rattle.calls.specs.Covering.{cover_rules, covered_by, cover_reply}
use Rattle.calls.specs.Rewriting.{result_of, takes_set, rewrite_rules, reply_by, rewrite_reply}
use Rattle.calls.specs.Ending.{last_reply}
use Rattle.calls.proofs.Ending.{refused_mode, refused_retired, refused_default, refused_ranks, refused_table, last_decide, checked_lawful}
use Rattle.aggregate.specs.Walks.{whole, Ready}

-- ---- The rewrite.

module _ (form : Form) (t : List ℕ) (mode default : ℕ) (ranks : List ℕ) (room words : ℕ) where
  abbrev known : Bool
  known = leb 1 mode && leb mode 5

  -- The rules of the rooms.
  abbrev rooms : List Rule
  rooms = rule 10 0 (leb (160 * nodes (width_in (size_of form)) (routes_in (size_of form) t)) words) ∷ rule 11 0 (leb (size_of form * length (result_of (size_of form) t mode default ranks)) room) ∷ []

  -- Number 1.
  pub not_a_mode : (leb 1 mode && leb mode 5) ≡ false → rewrite_reply form t mode default ranks room words ≡ refuses 1 0
  unfolding reply_by rewrite_rules
  not_a_mode e = refused_mode known form t mode default ranks rooms (result_of (size_of form) t mode default ranks) e

  module _ (is : (leb 1 mode && leb mode 5) ≡ true) where
    -- Number 16.
    pub retired_mode : mode ≡ 2 → rewrite_reply form t mode default ranks room words ≡ refuses 16 0
    unfolding reply_by rewrite_rules
    retired_mode e = refused_retired known form t mode default ranks rooms (result_of (size_of form) t mode default ranks) is e

    module _ (used : mode ≡ 2 → ⊥) where
      -- Number 2.
      pub not_a_hop : (not (eqb mode 5) || leb default 63) ≡ false → rewrite_reply form t mode default ranks room words ≡ refuses 2 0
      unfolding reply_by rewrite_rules
      not_a_hop e = refused_default known form t mode default ranks rooms (result_of (size_of form) t mode default ranks) is used e

      module _ (ok : (not (eqb mode 5) || leb default 63) ≡ true) where
        -- Number 15.
        pub not_a_ranking : (not (leb 4 mode) || is_ranking 64 ranks) ≡ false → rewrite_reply form t mode default ranks room words ≡ refuses 15 0
        unfolding reply_by rewrite_rules
        not_a_ranking e = refused_ranks known form t mode default ranks rooms (result_of (size_of form) t mode default ranks) is used ok e

        module _ (ranked : (not (leb 4 mode) || is_ranking 64 ranks) ≡ true) where
          -- Numbers 3 to 8.
          pub not_a_table : {n i : ℕ} → check_reply_in (size_of form) form.strict (takes_set mode) t ≡ refuses n i → rewrite_reply form t mode default ranks room words ≡ refuses n i
          unfolding reply_by rewrite_rules
          not_a_table e = refused_table known form t mode default ranks rooms (result_of (size_of form) t mode default ranks) is used ok ranked e

          module _ {k : ℕ} (valid : check_reply_in (size_of form) form.strict (takes_set mode) t ≡ gives k) where
            -- Past the table's rules the rooms decide.
            past-table : rewrite_reply form t mode default ranks room words
                ≡ judge (rule 10 0 (leb (160 * nodes (width_in (size_of form)) (routes_in (size_of form) t)) words) ∷ rule 11 0 (leb (size_of form * length (result_of (size_of form) t mode default ranks)) room) ∷ []) (result_of (size_of form) t mode default ranks)
            unfolding reply_by rewrite_rules
            past-table = last_decide known form t mode default ranks rooms (result_of (size_of form) t mode default ranks) is used ok ranked valid

            -- Number 10.
            pub short_room : words < 160 * nodes (width_in (size_of form)) (routes_in (size_of form) t) → rewrite_reply form t mode default ranks room words ≡ refuses 10 0
            short_room h = past-table ∙ broken-here _ 10 0 _ (lt-leb (160 * nodes (width_in (size_of form)) (routes_in (size_of form) t)) words h)

            -- Past it only the output's room does.
            pub only_output : 160 * nodes (width_in (size_of form)) (routes_in (size_of form) t) ≤ words → rewrite_reply form t mode default ranks room words ≡ last_reply (size_of form) t mode default ranks room
            only_output h = past-table ∙ kept_next _ 10 0 _ (le-leb (160 * nodes (width_in (size_of form)) (routes_in (size_of form) t)) words h)

-- A number that names no mode is refused by what it is.
pub named_by : (form : Form) (t : List ℕ) (mode default : ℕ) (ranks : List ℕ) (room words : ℕ) (c : Cause)
    → ((c ≡ RetiredMode) × (mode ≡ 2)) ⊎ ((c ≡ NoMode) × (mode_known mode ≡ false)) → rewrite_reply form t mode default ranks room words ≡ refuses (number_of c) 0
named_by form t mode default ranks room words c (inl (e, two)) = rw e (retired_mode form t mode default ranks room words (ap mode_known two) two)
named_by form t mode default ranks room words c (inr (e, none)) = rw e (not_a_mode form t mode default ranks room words none)

-- ---- What a table that keeps the rules is good for.

-- What the check says at a size that is the form's it says at the form's.
pub at_form : {size : ℕ} (form : Form) (s : Bool) (t : List ℕ) {r : Reply ℕ} → size ≡ size_of form → check_reply_in size form.strict s t ≡ r
    → check_reply_in (size_of form) form.strict s t ≡ r
at_form form s t {r} e = subst (λ (n : ℕ). check_reply_in n form.strict s t ≡ r) e

module _ (form : Form) (s : Bool) (t : List ℕ) (k : ℕ) (valid : check_reply_in (size_of form) form.strict s t ≡ gives k) where
  -- Its records are those of the root.
  pub checked_node : Bytes t → Node (size_of form) t 0 (records_in (size_of form) t) 0 0
  checked_node bytes =
      let lawful = checked_lawful form s t k valid bytes in
      root-node (size_of form) t (form_size form) lawful.table (hops-below s lawful.hops)

-- The walks can begin.
pub ready : (size : ℕ) → IsSize size → (mode : ℕ) (t : List ℕ) → LawfulIn size (takes_set mode) (routes_in size t) → Ready size t mode
ready size is mode t lawful =
    record {
      few = omega (arith, lawful.few, in_length_routes size t);
      node = root-node size t is lawful.table (hops-below (takes_set mode) lawful.hops);
      bare = λ e. rw (root-run size t) (all_widen (spare size) (λ r h. h) (set-hops (rw e at lawful.hops)));
    }

-- ---- The cover query.

module _ (form : Form) (t : List ℕ) (address len words : ℕ) where
  -- Numbers 3 to 8.
  pub query_table : {n i : ℕ} → check_reply_in (size_of form) form.strict true t ≡ refuses n i → cover_reply form t address len words ≡ refuses n i
  unfolding cover_rules
  query_table {n} {i} e = some-here _ (records_in (size_of form) t) n i (form_rules form true t) _ e

  module _ {k : ℕ} (valid : check_reply_in (size_of form) form.strict true t ≡ gives k) where
    -- Past the set's rules the query's length and the room decide.
    query_next : cover_reply form t address len words
        ≡ judge (rule 9 0 (leb len (width_in (size_of form))) ∷ rule 10 0 (leb (160 * nodes (width_in (size_of form)) (routes_in (size_of form) t)) words) ∷ []) (covered_by (size_of form) t address len)
    unfolding cover_rules
    query_next = all_next _ (records_in (size_of form) t) (form_rules form true t) _ valid

    -- Number 9.
    pub query_long : width_in (size_of form) < len → cover_reply form t address len words ≡ refuses 9 0
    query_long h = query_next ∙ broken-here _ 9 0 _ (lt-leb len (width_in (size_of form)) h)

    module _ (short : len ≤ width_in (size_of form)) where
      -- Number 10.
      pub query_room : words < 160 * nodes (width_in (size_of form)) (routes_in (size_of form) t) → cover_reply form t address len words ≡ refuses 10 0
      query_room h = query_next ∙ kept_next _ 9 0 _ (le-leb len (width_in (size_of form)) short) ∙ broken-here _ 10 0 _ (lt-leb (160 * nodes (width_in (size_of form)) (routes_in (size_of form) t)) words h)

      -- Past it the query is answered.
      pub query_answered : 160 * nodes (width_in (size_of form)) (routes_in (size_of form) t) ≤ words → cover_reply form t address len words ≡ gives (covered_by (size_of form) t address len)
      unfolding judge
      query_answered h = query_next ∙ rw (le-leb len (width_in (size_of form)) short, le-leb (160 * nodes (width_in (size_of form)) (routes_in (size_of form) t)) words h)

-- ---- The query at wide addresses.

module _ (size : ℕ) (is : IsSize size) (t : List ℕ) (address len : ℕ) where
  abbrev width : ℕ
  width = width_in size

  -- The address that counts.
  abbrev lowest : ℕ
  lowest = address % 2 ^ width

  abbrev start : ℕ
  start = start_of (width - len) lowest

  -- The wide query is an address.
  pub query_within : start * 2 ^ spare size < 2 ^ wide
  query_within =
      let s = start_small width (width - len) lowest (mod-lt address (pow_pos width)) in
      let e : 2 ^ wide ≡ 2 ^ width * 2 ^ spare size = ap (λ (n : ℕ). 2 ^ n) (sym (width_spare size is)) ∙ pow-add 2 width (spare size) in
      rw e (mul-lt-mul_of_pos_right s (pow_pos (spare size)))

  module _ (short : len ≤ width) where
    sizes : wide - len ≡ (width - len) + spare size
    sizes = omega (arith, width_most size is)

    -- The wide query is a prefix of its length.
    pub query_aligned : Aligned (wide - len) (start * 2 ^ spare size)
    query_aligned = rw sizes (aligned-widen (spare size) (width - len) start (lowest / 2 ^ (width - len), refl))

    -- The wide routes cover the wide query exactly when the routes cover the query.
    pub covered-wide : All (Valid width) (routes_in size t) → throughout (held wide (whole size t)) (wide - len) (start * 2 ^ spare size) ≡ covered_by size t address len
    unfolding covered_by
    covered-wide valid =
        rw (sizes, root-run size t)
        (throughout-agree (held wide (widened (spare size) (routes_in size t))) (λ x. held width (routes_in size t) (x / 2 ^ spare size)) ((width - len) + spare size)
        (start * 2 ^ spare size)
        (λ x i. ap (λ (w : ℕ). held w (widened (spare size) (routes_in size t)) x) (sym (width_spare size is)) ∙ held-widen width (spare size) valid x)
        ∙ throughout-widen (spare size) (held width (routes_in size t)) (width - len) start)
