-- `take_kept` finds the prefix's place, and takes the record there away. Assumes nothing.
use mathlib.Core.Bool.{true, false}
use mathlib.Core.Path.{◌≡◌, sym, ◌∙◌}
use native.Mathlib.Omega.{arith}
use Rattle.liveroom.specs.Inner.{is_at}
use Rattle.liveroom.specs.Rooms.{count_in, Words}
use Rattle.liveroom.proofs.Sound.{Live, live_is}
use Rattle.live.proofs.Calling.{table_from, small, take_done, take_absent}
use Rattle.live.proofs.take_kept.Goals as goal

pub bounds-room-1 : goal.bounds-room-1
bounds-room-1 c =
    let a = c.args in
    let l : Live a.room.now = live_is a.room.now c.requires in
    omega (arith, l.holds)

pub overflow_cast-n : goal.overflow_cast-n
overflow_cast-n c =
    omega (arith, c.slice_known-2-1.given 1)

pub place-at-requires : goal.place-at-requires
place-at-requires c =
    let a = c.args in
    let l : Live a.room.now = live_is a.room.now c.requires in
    let words : Words a.room.now = λ k. (c.slice_known-1.given k).fits in
    (l.holds, (table_from a.room.now words l).order)

pub is_at-requires : goal.is_at-requires
is_at-requires c =
    let a = c.args in
    let l : Live a.room.now = live_is a.room.now c.requires in
    l.holds

pub remove-requires : goal.remove-requires
remove-requires c =
    let a = c.args in
    let l : Live a.room.now = live_is a.room.now c.requires in
    let words : Words a.room.now = λ k. (c.slice_known-1.given k).fits in
    let old : is_at a.room.now (count_in a.room.now) c.place-at.result a.addr a.len ≡ true = sym c.is_at.ensures ∙ c.if-is_at.true in
    let lt = small a.room.now words l a.addr a.len c.place-at.result c.place-at.ensures old in
    (l.holds, (lt, l.few))

pub returns-then-is_at : goal.returns-then-is_at
returns-then-is_at c =
    let a = c.args in
    let l : Live a.room.now = live_is a.room.now c.requires in
    let words : Words a.room.now = λ k. (c.slice_known-1.given k).fits in
    let old : is_at a.room.now (count_in a.room.now) c.place-at.result a.addr a.len ≡ true = sym c.is_at.ensures ∙ c.if-is_at.true in
    rw (sym c.remove.ensures) at (take_done a.room.now words l a.addr a.len c.place-at.result c.place-at.ensures old)

pub returns-else-is_at : goal.returns-else-is_at
returns-else-is_at c =
    let a = c.args in
    let l : Live a.room.now = live_is a.room.now c.requires in
    let words : Words a.room.now = λ k. (c.slice_known-1.given k).fits in
    let new : is_at a.room.now (count_in a.room.now) c.place-at.result a.addr a.len ≡ false = sym c.is_at.ensures ∙ c.if-is_at.false in
    take_absent a.room.now words l a.addr a.len c.place-at.result c.place-at.ensures new
