-- What is written out for each answer of the loader is the right reply's. Assumes nothing.
use mathlib.Core.Path.{◌≡◌, sym, ap, subst, ◌∙◌}
use mathlib.Core.List.{List}
use Prim.Native.Nat.{ℕ}
use native.Mathlib.Omega.{arith}
use lib.ListN.{length}
use lib.Seq.{take_all}
use Rattle.theory.specs.Routes.{Route}
use Rattle.std.specs.Prelude.{Result, Ok, Err}
use Rattle.refusals.specs.declared.Refusal.{Refusal}
use Rattle.refusals.specs.Numbers.{number_of}
use Rattle.refusals.specs.Rules.{Reply, judge}
use Rattle.refusals.proofs.Judged.{gives_any, refuses_any}
use Rattle.records.specs.Wire.{records}
use Rattle.records.specs.Forms.{by_default}
use Rattle.chip.specs.Loading.{load_rules, load_order, loaded_says, image_after, Loads}
use Rattle.text.specs.Text.{Put, refusal_line}
use Rattle.text.proofs.Puts.{put_none}
use Rattle.chip_image.specs.Written.{load_reply, shown_for, said_for, Answered}

module _ (t l m : List ℕ) (size : length m ≡ 8192) where
  as_lent : load_reply t ≡ judge (load_rules by_default t (length m)) (load_order t)
  unfolding load_reply
  as_lent = ap (λ (n : ℕ). judge (load_rules by_default t n) (load_order t)) (sym size)

  -- The image, and no line.
  pub answered-image : {r : Result ℕ Refusal} {used : ℕ} {m' : List ℕ} → r ≡ Ok used → length m' ≡ length m → Loads by_default t m r m'
      → Answered t l (record { shown = 8192; said = 0 }) m' l
  answered-image {used = used} {m' = m'} e long ok =
      let given = gives_any (load_rules by_default t (length m)) (records t) used (load_order t) (sym ok.answer ∙ ap loaded_says e) in
      record {
        fits = omega arith;
        shows = take_all 8192 m' (omega arith) ∙ ok.image ∙ ap (image_after m) given ∙ sym (ap shown_for (as_lent ∙ given));
        says = subst (λ (q : Reply (List Route)). Put (said_for q) 0 0 l l) (sym (as_lent ∙ given)) (put_none 0 l (omega arith));
      }

  -- The line, and nothing of the image.
  pub answered-line : {r : Result ℕ Refusal} {x : Refusal} {k : ℕ} {m' l' : List ℕ} → r ≡ Err x → Loads by_default t m r m' → Put (refusal_line x) 0 k l l'
      → Answered t l (record { shown = 0; said = k }) m' l'
  answered-line {x = x} {k = k} {l' = l'} e ok put =
      let refused = as_lent ∙ refuses_any (load_rules by_default t (length m)) (records t) (load_order t) (number_of x.cause) x.index (sym ok.answer ∙ ap loaded_says e) in
      record {
        fits = omega arith;
        shows = sym (ap shown_for refused);
        says = subst (λ (q : Reply (List Route)). Put (said_for q) 0 k l l') (sym refused) put;
      }
