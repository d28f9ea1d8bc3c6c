-- Whose text is kept for a case with call 6, and that the image is left as the call's statement says. Assumes of the table, where it says so, that its
-- elements are bytes.
use mathlib.Core.Path.{◌≡◌, refl, sym, ap, ap₂, ◌∙◌}
use mathlib.Core.Bool.{true}
use mathlib.Core.List.{List, ◌++◌}
use Prim.Native.Nat.{ℕ, ◌-◌, ◌*◌, ◌≤◌}
use native.Mathlib.Omega.{arith}
use lib.ListN.{length, take, drop, replicate}
use lib.Seq.{take_at, drop_at}
use Rattle.theory.specs.Routes.{Route, All, Valid}
use Rattle.theory.proofs.Lists.{all_member, member_all}
use Rattle.refusals.proofs.Judged.{gives_any, refuses_any}
use Rattle.records.specs.Wire.{records, routes, bytes_of}
use Rattle.records.specs.Sized.{Bytes}
use Rattle.records.specs.declared.Form.{Form}
use Rattle.records.proofs.Written.{length-bytes, routes-bytes}
use Rattle.rooms.specs.Rooms.{all_are}
use Rattle.chip.specs.Images.{image_of}
use Rattle.chip.specs.Loading.{load_rules, load_order, Loads}
use Rattle.std.specs.Prelude.{Result, Ok, Err}
use Rattle.refusals.specs.Numbers.{number_of}
use Rattle.refusals.specs.declared.Refusal.{Refusal}
use Rattle.chip.proofs.Calls.{load_given, load_used, load_image, load_length, load_member, lawful, refusal_changes_nothing}
use Rattle.text.specs.Text.{lines_of}
use Rattle.replaying_more.specs.ChipKept.{slots_line, used_of, loaded_text, load_text, chip_answer, is_as_said}
use Rattle.kept.proofs.KeptLaws.{all_replicate}

module _ (form : Form) (t m m' : List ℕ) where
  -- ---- The slots used stand in the image, and are 1,024 at most.
  pub used_fits : (r : Result ℕ Refusal) → Loads form t m r m' → (8 * used_of r ≤ length m') × (used_of r ≤ 1024)
  used_fits (Ok used) ok =
      let k = (load_given form t m (Ok used) m' ok used).0 refl in
      let n = load_length form t m (Ok used) m' ok in
      (omega (arith, k.0.few, k.1, k.2, n), omega (arith, k.0.few, k.2))
  used_fits (Err e) ok = (omega arith, omega arith)

  -- ---- The first slots are the routes by falling length.
  module _ (used : ℕ) (ok : Loads form t m (Ok used) m') where
    front_length : length (bytes_of (load_order t)) ≡ 8 * used
    front_length = omega (arith, length-bytes (load_order t), load_used form t m (Ok used) m' ok used refl)

    slots_read : Bytes t → routes (take (8 * used) m') ≡ load_order t
    unfolding image_of
    slots_read bytes =
        let valid : All (Valid 32) (load_order t) =
        member_all (load_order t) (λ q n. all_member (lawful form t m (Ok used) m' ok used refl bytes).table.valid ((load_member form t m (Ok used) m' ok used refl q).0 n)) in
        ap (λ (l : List ℕ). routes (take (8 * used) l)) (load_image form t m (Ok used) m' ok used refl)
        ∙ ap routes (take_at (bytes_of (load_order t)) (replicate (8 * (1024 - length (load_order t))) 255) (8 * used) front_length)
        ∙ routes-bytes (load_order t) valid

    slots-clear : all_are 255 (drop (8 * used) m') ≡ true
    unfolding image_of
    slots-clear =
        ap (λ (l : List ℕ). all_are 255 (drop (8 * used) l)) (load_image form t m (Ok used) m' ok used refl)
        ∙ ap (all_are 255) (drop_at (bytes_of (load_order t)) (replicate (8 * (1024 - length (load_order t))) 255) (8 * used) front_length)
        ∙ all_replicate 255 (8 * (1024 - length (load_order t)))

  -- ---- The text of an answer that meets the call's statement is that of the right reply.
  pub chip_kept : Bytes t → (r : Result ℕ Refusal) → Loads form t m r m' → loaded_text r m' ≡ chip_answer form t (length m)
  unfolding loaded_text load_text
  chip_kept bytes (Ok used) ok =
      ap₂ (λ (rs : List Route) (n : ℕ). lines_of true rs ++ slots_line n) (slots_read used ok bytes) (sym (load_used form t m (Ok used) m' ok used refl))
      ∙ sym (ap load_text (gives_any (load_rules form t (length m)) (records t) used (load_order t) (sym ok.answer)))
  chip_kept bytes (Err e) ok =
      sym (ap load_text (refuses_any (load_rules form t (length m)) (records t) (load_order t) (number_of e.cause) e.index (sym ok.answer)))

  -- ---- No line about the image is due: it was filled before the call.
  pub image_as_said : (n : ℕ) → m ≡ replicate n 165 → (r : Result ℕ Refusal) → Loads form t m r m' → is_as_said r m' ≡ true
  image_as_said n filled (Ok used) ok = slots-clear used ok
  image_as_said n filled (Err e) ok =
      ap (all_are 165) (refusal_changes_nothing form t m (Err e) m' ok (number_of e.cause) e.index refl ∙ filled) ∙ all_replicate 165 n
