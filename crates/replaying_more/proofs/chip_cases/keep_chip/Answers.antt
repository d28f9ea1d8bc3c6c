-- `chip_cases::keep_chip` meets its contract: at most 1,024 slots are used, so that there is room for their lines; the image is as
-- the call's statement says, so that no line about it is kept. Assumes nothing.
use mathlib.Core.Path.{ap, ◌∙◌}
use native.Mathlib.Omega.{arith}
use lib.ListN.{length}
use Rattle.text.proofs.Puts.{put_as, put-length}
use Rattle.replaying_more.specs.ChipKept.{chip_answer}
use Rattle.kept.proofs.KeptLaws.{put_at}
use Rattle.replaying_more.proofs.ChipLaws.{used_fits, chip_kept, image_as_said}
use Rattle.replaying_more.proofs.chip_cases.keep_chip.Goals as goal

pub put_loaded-end-requires : goal.put_loaded-end-requires
put_loaded-end-requires c =
    let fits = used_fits _ _ _ _ _ c.load-answer.ensures in record { answer_in_bounds = fits.0; answer_in_bounds_2 = omega (arith, fits.1, c.room_for-begin.ensures.result_in_bounds) }

pub keep_image-requires : goal.keep_image-requires
keep_image-requires c =
    let put = c.put_loaded-end.ensures in record { answer_bound = (used_fits _ _ _ _ _ c.load-answer.ensures).1; at_in_bounds = omega (arith, put.fits, put-length put); in_bounds = omega (arith, c.requires.in_bounds, put-length put) }

pub returns : goal.returns
returns c =
    let s = c.args in
    let bytes = c.fill in
    let done = c.load-answer in
    let nothing = c.keep_image.ensures (image_as_said _ _ _ _ (length s.image.now) (bytes.ensures.after (λ y e. e)) _ done.ensures) in
    put_at c.room_for-begin.ensures.value nothing.0 nothing.1
    (put_as
    (chip_kept _ _ _ _ (λ k. (c.type_inv.table k).fits) _ done.ensures
    ∙ ap (chip_answer s.form s.table.now) bytes.ensures.len)
    c.put_loaded-end.ensures)
