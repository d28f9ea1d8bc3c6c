-- The line of a route says the route. Assumes nothing.
use mathlib.Core.Path.{◌≡◌, refl, sym, ap, subst, ◌∙◌}
use mathlib.Core.Bool.{Bool, true, false, cond, ◌&&◌}
use mathlib.Core.List.{List, [], ◌∷◌, ◌++◌, append_assoc, append-nil}
use Prim.Native.Nat.{ℕ, suc, ◌/◌, ◌%◌, ◌≤◌, ◌<◌}
use native.Mathlib.Omega.{arith}
use borrow.Author.Tests.{lt-ltb, le-leb, ne_eqb}
use lib.Dec.{leb, eqb}
use lib.ListN.{length}
use Rattle.theory.specs.Routes.{Route}
use Rattle.records.specs.Wire.{join}
use Rattle.text.specs.Text.{decimal, dotted, hop_end, address_in, line_in, line_of}
use Rattle.tabletext.specs.Pieces.{is, up_to, behind, unblank, number, joined, address, is_default, prefix_address, prefix_length}
use Rattle.tabletext.specs.Lines.{entry, end_of_set, end_of_map, of_prefix, of_words, of_body, of_line, said}
use Rattle.tabletext.specs.Reading.{marked, unmarked}
use Rattle.tabletext.proofs.LineLaws.{map-hop}
use Rattle.tabletext.proofs.Free.{Free, nil, cons, free_append, up_to-joined, up_to_all, behind-joined, behind_all, has-joined, has_none, unblank-kept, unreturned_free}
use Rattle.textback.specs.Held.{Held}
use Rattle.textback.proofs.Decimals.{digit_not, digits_free, Written, decimal-written}

-- ---- Bytes that no digit is.

-- A byte that is no digit.
abbrev pub NoDigit : ℕ → Type 0
NoDigit b = (x : ℕ) → 48 ≤ x → x ≤ 57 → x ≡ b → ⊥

decimal_free : (b n : ℕ) → NoDigit b → n < 1000 → Free b (decimal n)
decimal_free b n h small = digits_free b h (decimal-written n small).all

-- ---- Addresses.

-- Four words with dots between them are the address of their numbers.
address_four : (a b c d : List ℕ) → Free 46 a → Free 46 b → Free 46 c
    → address (a ++ (46 ∷ (b ++ (46 ∷ (c ++ (46 ∷ d)))))) ≡ joined (number a) (number b) (number c) (number d)
unfolding address
address_four a b c d p q r =
    let one = behind-joined 46 a 46 (b ++ (46 ∷ (c ++ (46 ∷ d)))) p refl in
    let two = behind-joined 46 b 46 (c ++ (46 ∷ d)) q refl in
    let three = behind-joined 46 c 46 d r refl in
    rw (one, two, three, up_to-joined 46 a 46 (b ++ (46 ∷ (c ++ (46 ∷ d)))) p refl, up_to-joined 46 b 46 (c ++ (46 ∷ d)) q refl, up_to-joined 46 c 46 d r refl)

joined_octets : (a b c d : ℕ) → a < 256 → b < 256 → c < 256 → d < 256 → joined a b c d ≡ join a b c d
unfolding joined
joined_octets a b c d p q r s = rw (lt-ltb a 256 p, lt-ltb b 256 q, lt-ltb c 256 r, lt-ltb d 256 s)

-- The four octets of an address make it.
octets_join : (a : ℕ) → join (a / 16777216) (a / 65536 % 256) (a / 256 % 256) (a % 256) ≡ a
octets_join a = omega arith

nothing : length (unblank []) ≡ 0
unfolding unblank
nothing = refl

module _ (a : ℕ) (small : a < 4294967296) where
  -- An address with dots reads as the address.
  dotted-address : address (dotted a) ≡ a
  unfolding dotted
  dotted-address =
      let w = decimal-written (a / 16777216) (omega arith) in
      let x = decimal-written (a / 65536 % 256) (omega arith) in
      let y = decimal-written (a / 256 % 256) (omega arith) in
      let z = decimal-written (a % 256) (omega arith) in
      let dot : NoDigit 46 = λ v p q e. omega arith in
      address_four (decimal (a / 16777216)) (decimal (a / 65536 % 256)) (decimal (a / 256 % 256)) (decimal (a % 256)) (digits_free 46 dot w.all) (digits_free 46 dot x.all) (digits_free 46 dot y.all)
      ∙ rw (w.reads, x.reads, y.reads, z.reads)
      (joined_octets (a / 16777216) (a / 65536 % 256) (a / 256 % 256) (a % 256) (omega arith) (omega arith) (omega arith) (omega arith) ∙ octets_join a)

  -- It has digits and dots alone.
  dotted_free : (b : ℕ) → NoDigit b → is b 46 ≡ false → Free b (dotted a)
  unfolding dotted
  dotted_free b h e =
      free_append (decimal_free b (a / 16777216) h (omega arith))
      (cons e (free_append (decimal_free b (a / 65536 % 256) h (omega arith))
      (cons e (free_append (decimal_free b (a / 256 % 256) h (omega arith)) (cons e (decimal_free b (a % 256) h (omega arith)))))))

  -- It begins with a digit.
  pub dotted-first : Written (a / 16777216) (decimal (a / 16777216))
  dotted-first = decimal-written (a / 16777216) (omega arith)

-- ---- Prefixes.

and-false : (t : Bool) → (t && false) ≡ false
and-false true = refl
and-false false = refl

-- What begins with a digit is not `default`.
not_default : (x : ℕ) (s : List ℕ) → x ≤ 57 → is_default (x ∷ s) ≡ false
unfolding is_default
not_default x s h = rw (ne_eqb x 100 (λ e. omega arith)) (and-false (eqb (suc (length s)) 7))

-- A prefix as it is printed.
abbrev prefix_of : ℕ → ℕ → List ℕ
prefix_of a len = dotted a ++ (47 ∷ decimal len)

-- What a list begins with, if it is a digit.
record Begins (s : List ℕ) : Type 0 where
  x : ℕ
  rest : List ℕ
  is_list : s ≡ x ∷ rest
  low : 48 ≤ x
  high : x ≤ 57

begins-decimal : (n : ℕ) → n < 1000 → (t : List ℕ) → Begins (decimal n ++ t)
begins-decimal n small t =
    let w = decimal-written n small in
    record { x = w.first; rest = w.rest ++ t; is_list = ap (λ (l : List ℕ). l ++ t) w.is_list; low = w.low; high = w.high }

begins_as : {s t : List ℕ} → s ≡ t → Begins s → Begins t
begins_as e b = subst Begins e b

begins-dotted : (a : ℕ) → a < 4294967296 → (t : List ℕ) → Begins (dotted a ++ t)
unfolding dotted
begins-dotted a small t =
    begins_as (sym (append_assoc (decimal (a / 16777216)) (46 ∷ decimal (a / 65536 % 256) ++ (46 ∷ decimal (a / 256 % 256) ++ (46 ∷ decimal (a % 256)))) t))
    (begins-decimal (a / 16777216) (omega arith) ((46 ∷ decimal (a / 65536 % 256) ++ (46 ∷ decimal (a / 256 % 256) ++ (46 ∷ decimal (a % 256)))) ++ t))

-- A digit at the beginning: no blank goes, and there is something.
begins-kept : (s : List ℕ) → Begins s → unblank s ≡ s
begins-kept s b = rw b.is_list (unblank-kept b.x b.rest (digit_not 32 b.x b.low b.high (λ e. let h = b.low in omega arith)))

begins-some : (s : List ℕ) → Begins s → length s ≡ 0 → ⊥
begins-some s b e = omega (arith, ap (λ (l : List ℕ). length l) b.is_list)

begins_not_default : (s : List ℕ) → Begins s → is_default s ≡ false
begins_not_default s b = rw b.is_list (not_default b.x b.rest b.high)

module _ (a len : ℕ) (small : a < 4294967296) (short : len ≤ 32) where
  prefix_free : (b : ℕ) → NoDigit b → is b 46 ≡ false → is b 47 ≡ false → Free b (prefix_of a len)
  prefix_free b h e f = free_append (dotted_free a small b h e) (cons f (decimal_free b len h (omega arith)))

  slash : NoDigit 47
  slash v p q e = omega arith

  prefix-address : prefix_address (prefix_of a len) ≡ a
  unfolding prefix_address
  prefix-address =
      rw (begins_not_default (prefix_of a len) (begins-dotted a small (47 ∷ decimal len)), up_to-joined 47 (dotted a) 47 (decimal len) (dotted_free a small 47 slash refl) refl)
      (dotted-address a small)

  prefix-length : prefix_length (prefix_of a len) ≡ len
  unfolding prefix_length
  prefix-length =
      rw (begins_not_default (prefix_of a len) (begins-dotted a small (47 ∷ decimal len)), has-joined 47 (dotted a) 47 (decimal len) (dotted_free a small 47 slash refl) refl, behind-joined 47 (dotted a) 47 (decimal len) (dotted_free a small 47 slash refl) refl)
      (decimal-written len (omega arith)).reads

-- ---- Lines.

-- What stands behind the prefix of a line.
abbrev pub hop_of : Bool → ℕ → List ℕ
hop_of hops h = cond hops (32 ∷ decimal h) []

-- A line without its line feed.
abbrev pub body_of : Bool → Route → List ℕ
body_of hops r = prefix_of r.addr r.len ++ hop_of hops r.hop

pub line_body : (hops : Bool) (r : Route) → line_of hops r ≡ body_of hops r ++ (10 ∷ [])
unfolding line_in address_in hop_end
line_body hops r =
    sym (append_assoc (prefix_of r.addr r.len) (hop_of hops r.hop) (10 ∷ [])
    ∙ append_assoc (dotted r.addr) (47 ∷ decimal r.len) (hop_of hops r.hop ++ (10 ∷ [])))

hop_free : (hops : Bool) (h b : ℕ) → h < 1000 → NoDigit b → is b 32 ≡ false → Free b (hop_of hops h)
hop_free true h b low n e = cons e (decimal_free b h n low)
hop_free false h b low n e = nil

module _ (hops : Bool) (r : Route) (g : Held hops r) where
  hop-low : r.hop < 1000
  hop-low = go hops g.hop
    where
      go : (t : Bool) → r.hop ≤ cond t 63 0 → r.hop < 1000
      go true h = omega arith
      go false h = omega arith

  pub body_free : (b : ℕ) → NoDigit b → is b 46 ≡ false → is b 47 ≡ false → is b 32 ≡ false → Free b (body_of hops r)
  body_free b n e f d = free_append (prefix_free r.addr r.len g.addr g.len b n e f) (hop_free hops r.hop b hop-low n d)

  begins_body : Begins (body_of hops r)
  begins_body =
      begins_as (sym (append_assoc (dotted r.addr) (47 ∷ decimal r.len) (hop_of hops r.hop)))
      (begins-dotted r.addr g.addr ((47 ∷ decimal r.len) ++ hop_of hops r.hop))

  -- From the line to its words.
  body_words : said hops (body_of hops r) ≡ of_words hops (body_of hops r)
  unfolding said of_line of_body
  body_words =
      let f13 = body_free 13 (λ v p q e. omega arith) refl refl refl in
      rw (unreturned_free (body_of hops r) f13, has_none 13 (body_of hops r) f13, up_to_all 35 (body_of hops r) (body_free 35 (λ v p q e. omega arith) refl refl refl), has_none 58 (body_of hops r) (body_free 58 (λ v p q e. omega arith) refl refl refl), begins-kept (body_of hops r) begins_body)

  prefix_plain : Free 32 (prefix_of r.addr r.len)
  prefix_plain = prefix_free r.addr r.len g.addr g.len 32 (λ v p q e. omega arith) refl refl

  -- From the words to the prefix and what stands behind it.
  words-prefix : (word rest : List ℕ) → up_to 32 (body_of hops r) ≡ word → unblank (behind 32 (body_of hops r)) ≡ rest
      → of_words hops (body_of hops r) ≡ of_prefix hops (prefix_address word) (prefix_length word) rest
  unfolding of_words
  words-prefix word rest e f = rw (ne_eqb (length (body_of hops r)) 0 (begins-some (body_of hops r) begins_body), e, f)

  prefix_end : (rest : List ℕ)
      → of_prefix hops (prefix_address (prefix_of r.addr r.len)) (prefix_length (prefix_of r.addr r.len)) rest ≡ cond hops (end_of_map r.addr r.len rest) (end_of_set r.addr r.len rest)
  unfolding of_prefix
  prefix_end rest =
      rw (prefix-address r.addr r.len g.addr g.len, prefix-length r.addr r.len g.addr g.len, lt-ltb r.addr 4294967296 g.addr, le-leb r.len 32 g.len)

-- The line of a map's route says the route.
map-said : (r : Route) → Held true r → said true (body_of true r) ≡ entry r.addr r.len r.hop
map-said r g =
    let p = prefix_of r.addr r.len in
    let low = g.hop in
    let w = decimal-written r.hop (omega arith) in
    let plain : Free 32 (decimal r.hop) = decimal_free 32 r.hop (λ v p q e. omega arith) (omega arith) in
    let hop : number (up_to 32 (decimal r.hop)) ≡ r.hop = ap number (up_to_all 32 (decimal r.hop) plain) ∙ w.reads in
    let b : Begins (decimal r.hop) = begins_as (append-nil (decimal r.hop)) (begins-decimal r.hop (omega arith) []) in
    let rest = ap unblank (behind-joined 32 p 32 (decimal r.hop) (prefix_plain true r g) refl) ∙ begins-kept (decimal r.hop) b in
    let end : length (unblank (behind 32 (decimal r.hop))) ≡ 0 = ap (λ (l : List ℕ). length (unblank l)) (behind_all 32 (decimal r.hop) plain) ∙ nothing in
    body_words true r g
    ∙ words-prefix true r g p (decimal r.hop) (up_to-joined 32 p 32 (decimal r.hop) (prefix_plain true r g) refl) rest
    ∙ prefix_end true r g (decimal r.hop)
    ∙ sym (map-hop r.addr r.len (decimal r.hop) (begins-some (decimal r.hop) b) end (omega (arith, hop)))
    ∙ ap (λ (h : ℕ). entry r.addr r.len h) hop

-- The line of a set's route says the route.
set-said : (r : Route) → Held false r → said false (body_of false r) ≡ entry r.addr r.len r.hop
unfolding end_of_set unblank
set-said r g =
    let p = prefix_of r.addr r.len in
    let low = g.hop in
    let none : r.hop ≡ 0 = omega arith in
    let plain = prefix_plain false r g in
    let same : p ++ [] ≡ p = append-nil p in
    body_words false r g
    ∙ words-prefix false r g p [] (ap (up_to 32) same ∙ up_to_all 32 p plain) (ap (λ (l : List ℕ). unblank (behind 32 l)) same ∙ ap unblank (behind_all 32 p plain))
    ∙ prefix_end false r g []
    ∙ ap (λ (h : ℕ). entry r.addr r.len h) (sym none)

-- The line of a route says the route.
pub line-said : (hops : Bool) (r : Route) → Held hops r → said hops (body_of hops r) ≡ entry r.addr r.len r.hop
line-said true r g = map-said r g
line-said false r g = set-said r g

-- ---- The beginning of a text.

begins_more : (s t : List ℕ) → Begins s → Begins (s ++ t)
begins_more s t b =
    record { x = b.x; rest = b.rest ++ t; is_list = ap (λ (l : List ℕ). l ++ t) b.is_list; low = b.low; high = b.high }

unmarked_digit : (x : ℕ) (s : List ℕ) → x ≤ 57 → unmarked (x ∷ s) ≡ x ∷ s
unfolding unmarked marked
unmarked_digit x s h = rw (ne_eqb x 239 (λ e. omega arith), and-false (leb 3 (suc (length s))))

-- A line has no byte order mark before it.
pub line-unmarked : (hops : Bool) (r : Route) → Held hops r → (s : List ℕ) → unmarked (line_of hops r ++ s) ≡ line_of hops r ++ s
line-unmarked hops r g s =
    let b = begins_more (line_of hops r) s (begins_as (sym (line_body hops r)) (begins_more (body_of hops r) (10 ∷ []) (begins_body hops r g))) in
    ap unmarked b.is_list ∙ unmarked_digit b.x b.rest b.high ∙ sym b.is_list
