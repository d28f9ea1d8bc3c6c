-- What the statements of lookup and of addresses held settle: no second answer satisfies one, and each case of an answer stands for exactly these
-- facts. Lookup is at the form's size, addresses held at 8 bytes. The answer of a call is any r of which the call's `ensures` holds. Assumes nothing.
use mathlib.Core.Path.{◌≡◌, refl, sym, ap₂, ◌∙◌}
use mathlib.Core.Bool.{Bool, true, false, not}
use mathlib.Core.List.{List, []}
use mathlib.Core.Logic.{◌↔◌}
use Prim.Native.Nat.{ℕ, ◌+◌, ◌%◌, ◌^◌}
use native.Mathlib.Omega.{arith}
use Rattle.theory.specs.Routes.{Route as Entry, held, Match, miss, hit, lookup}
use Rattle.theory.specs.Results.{maximal, is_miss}
use Rattle.theory.specs.Reach.{how_many, reach, sizes}
use Rattle.theory.specs.Longest.{IsLongest}
use Rattle.theory.proofs.LongestMatch.{lookup-found, lookup-held}
use Rattle.theory.proofs.Reach.{reach_matched, reach-holes, reach-whole}
use Rattle.std.specs.Prelude.{Option, None, Some, Result, Ok}
use Rattle.refusals.specs.Rules.{refuses}
use Rattle.refusals.specs.Order.{First}
use Rattle.refusals.specs.declared.Refusal.{Refusal}
use Rattle.refusals.proofs.Replies.{reply_same}
use Rattle.records.specs.Wire.{routes}
use Rattle.records.specs.Sized.{width_in, routes_in}
use Rattle.records.specs.declared.Form.{Form}
use Rattle.records.specs.Forms.{size_of}
use Rattle.records.proofs.SizedReading.{form_size}
use Rattle.table.specs.Conditions.{TableCondition, Accepted, FormCondition, AcceptedBy}
use Rattle.table.proofs.SizedAlone.{in_table_unique, in_table_gives, in_table_says_refused}
use Rattle.table.proofs.AtEight.{table_unique, table-gives, table-says-refused}
use Rattle.lookup.specs.declared.answers.Match.{Match as Found}
use Rattle.lookup.specs.Calls.{match_of, lookup_says, lookup_reply, held_says, held_reply}

-- ---- Answers that say the same are the same.
match_same : (a b : Option Found) → match_of a ≡ match_of b → a ≡ b
match_same None None e = refl
match_same None (Some b) e = let z : ◌≡◌ {A = ℕ} 0 1 = cc in absurd (omega arith)
match_same (Some a) None e = let z : ◌≡◌ {A = ℕ} 0 1 = cc in absurd (omega arith)
match_same (Some a) (Some b) e = let h : a.hop ≡ b.hop = cc in let l : a.length ≡ b.length = cc in ap₂ found h l
  where
    found : ℕ → ℕ → Option Found
    found h l = Some (record { hop = h; length = l })

pub lookup_same : (a b : Result (Option Found) Refusal) → lookup_says a ≡ lookup_says b → a ≡ b
lookup_same = reply_same match_of match_same

pub count_same : (a b : Result ℕ Refusal) → held_says a ≡ held_says b → a ≡ b
count_same = reply_same (λ n. n) (λ m n e. e)

-- ---- Lookup.

-- There is no match exactly where no member matches.
pub miss-held : (w : ℕ) (rs : List Entry) (x : ℕ) → lookup w rs x ≡ miss ↔ held w rs x ≡ false
miss-held w rs x = go (lookup w rs x) (held w rs x) (lookup-held w rs x)
  where
    go : (m : Match) (h : Bool) → is_miss m ≡ not h → m ≡ miss ↔ h ≡ false
    go miss false e = (λ p. refl, λ p. refl)
    go miss true e = let z : ◌≡◌ {A = ℕ} 0 1 = cc in absurd (omega arith)
    go (hit l k) false e = let z : ◌≡◌ {A = ℕ} 0 1 = cc in absurd (omega arith)
    go (hit l k) true e = (λ p. let z : ◌≡◌ {A = ℕ} 0 1 = cc in absurd (omega arith), λ p. let z : ◌≡◌ {A = ℕ} 0 1 = cc in absurd (omega arith))

module _ (form : Form) (t : List ℕ) (x : ℕ) where
  -- The width of the table's addresses, its routes, and the address looked up.
  abbrev bits : ℕ
  bits = width_in (size_of form)

  abbrev rs : List Entry
  rs = routes_in (size_of form) t

  abbrev address : ℕ
  address = x % 2 ^ bits

  -- No second answer satisfies the statement.
  pub lookup_unique : (a b : Result (Option Found) Refusal) → lookup_says a ≡ lookup_reply form t x → lookup_says b ≡ lookup_reply form t x → a ≡ b
  lookup_unique = in_table_unique lookup_says lookup_same (size_of form) (form_size form) form.strict false t (lookup bits rs address)

  module _ (r : Result (Option Found) Refusal) (e : lookup_says r ≡ lookup_reply form t x) where
    -- It answers a route exactly for an accepted table of which that is the longest match.
    pub lookup-route-exactly : (hop len : ℕ) → r ≡ Ok (Some (record { hop = hop; length = len })) ↔ (AcceptedBy form false t × (lookup bits rs address ≡ hit len hop))
    lookup-route-exactly hop len =
        in_table_gives lookup_says lookup_same (size_of form) (form_size form) form.strict false t (lookup bits rs address) r e (Ok (Some (record { hop = hop; length = len }))) (hit len hop) refl

    -- That is a member that matches, and no member that matches is longer.
    pub lookup-longest : (hop len : ℕ) → r ≡ Ok (Some (record { hop = hop; length = len }))
        → (s : Entry) × IsLongest bits rs address s × (s.len ≡ len) × (s.hop ≡ hop)
    lookup-longest hop len q = lookup-found bits rs address ((lookup-route-exactly hop len).0 q).1

    -- It answers that there is no route exactly for an accepted table under no member of which the address is.
    pub lookup_none_exactly : r ≡ Ok None ↔ (AcceptedBy form false t × (held bits rs address ≡ false))
    lookup_none_exactly =
        let none = in_table_gives lookup_says lookup_same (size_of form) (form_size form) form.strict false t (lookup bits rs address) r e (Ok None) miss refl in (
          λ q. let f = none.0 q in (f.0, (miss-held bits rs address).0 f.1),
          λ f. none.1 (f.0, (miss-held bits rs address).1 f.1),
        )

    -- It answers a refusal exactly when its number and index are those of the first condition that holds.
    pub lookup_refused_exactly : (n i : ℕ) → lookup_says r ≡ refuses n i ↔ First (FormCondition form false t) n i
    lookup_refused_exactly = in_table_says_refused lookup_says lookup_same (size_of form) (form_size form) form.strict false t (lookup bits rs address) r e

-- ---- Addresses held.
module _ (form : Form) (t : List ℕ) where
  -- No second answer satisfies the statement.
  pub held_unique : (a b : Result ℕ Refusal) → held_says a ≡ held_reply form t → held_says b ≡ held_reply form t → a ≡ b
  held_unique = table_unique held_says count_same form false t (reach 32 (routes t))

  module _ (r : Result ℕ Refusal) (e : held_says r ≡ held_reply form t) where
    -- It answers a number exactly for an accepted table that holds as many addresses.
    pub held-count-exactly : (n : ℕ) → r ≡ Ok n ↔ (Accepted form false t × (reach 32 (routes t) ≡ n))
    held-count-exactly n = table-gives held_says count_same form false t (reach 32 (routes t)) r e (Ok n) n refl

    -- They are the addresses with a longest match.
    pub held_matched : (n : ℕ) → r ≡ Ok n → n ≡ how_many (λ x. not (is_miss (lookup 32 (routes t) x))) 32 0
    held_matched n q = sym ((held-count-exactly n).0 q).1 ∙ reach_matched 32 (routes t)

    -- With the sizes of the holes, the maximal prefixes none of whose addresses is held, they are all the addresses;
    pub held-holes : (n : ℕ) → r ≡ Ok n → n + sizes 32 (maximal 32 (λ x. not (held 32 (routes t) x)) 32 0) ≡ 2 ^ 32
    held-holes n q = omega (arith, ((held-count-exactly n).0 q).1, reach-holes 32 (routes t))

    -- without them exactly when there is no hole.
    pub held_whole : (n : ℕ) → r ≡ Ok n → (n ≡ 2 ^ 32) ↔ (maximal 32 (λ x. not (held 32 (routes t) x)) 32 0 ≡ [])
    held_whole n q =
        let e = ((held-count-exactly n).0 q).1 in
        let whole = reach-whole 32 (routes t) in
        (λ p. whole.0 (e ∙ p), λ p. sym e ∙ whole.1 p)

    -- It answers a refusal exactly when its number and index are those of the first condition that holds.
    pub held_refused_exactly : (n i : ℕ) → held_says r ≡ refuses n i ↔ First (TableCondition form false t) n i
    held_refused_exactly = table-says-refused held_says count_same form false t (reach 32 (routes t)) r e
