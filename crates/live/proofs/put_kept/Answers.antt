-- `put_kept` finds the prefix's place, and writes the record there or makes one. Assumes nothing.
use mathlib.Core.Bool.{true, false}
use mathlib.Core.Path.{◌≡◌, sym, ◌∙◌}
use native.Mathlib.Omega.{arith}
use Rattle.records.specs.Sized.{route}
use Rattle.nodecount.specs.Nodes.{nodes}
use Rattle.liveroom.specs.Inner.{is_at}
use Rattle.liveroom.specs.Rooms.{count_in, shown_from, shown, Words}
use Rattle.liveroom.proofs.Sound.{Proper, Live, live_is, sound_proper}
use Rattle.live.proofs.Calling.{table_from, small, put_done_old, with_table, put_17, put_10, more_holds, put_done_new}
use Rattle.live.proofs.put_kept.Goals as goal

pub bounds-room-1 : goal.bounds-room-1
bounds-room-1 c =
    let a = c.args in
    let l : Live a.room.now = live_is a.room.now c.requires.0 in
    omega (arith, l.holds)

pub overflow_cast-n : goal.overflow_cast-n
overflow_cast-n c =
    omega (arith, c.slice_known-2-1.given 1)

pub place-at-requires : goal.place-at-requires
place-at-requires c =
    let a = c.args in
    let l : Live a.room.now = live_is a.room.now c.requires.0 in
    let words : Words a.room.now = λ k. (c.slice_known-1.given k).fits in
    (l.holds, (table_from a.room.now words l).order)

pub is_at-requires : goal.is_at-requires
is_at-requires c =
    let a = c.args in
    let l : Live a.room.now = live_is a.room.now c.requires.0 in
    l.holds

pub set_record-requires : goal.set_record-requires
set_record-requires c =
    let a = c.args in
    let l : Live a.room.now = live_is a.room.now c.requires.0 in
    let words : Words a.room.now = λ k. (c.slice_known-1.given k).fits in
    let v : Proper (route a.addr a.len a.hop) = sound_proper (route a.addr a.len a.hop) c.ranges.addr.fits c.requires.1.1 in
    let old : is_at a.room.now (count_in a.room.now) c.place-at.result a.addr a.len ≡ true = sym c.is_at.ensures ∙ c.if-is_at.true in
    let lt = small a.room.now words l a.addr a.len c.place-at.result c.place-at.ensures old in
    (omega (arith, l.holds), (v.valid.short, v.hop_kept))

pub returns-then-is_at : goal.returns-then-is_at
returns-then-is_at c =
    let a = c.args in
    let l : Live a.room.now = live_is a.room.now c.requires.0 in
    let words : Words a.room.now = λ k. (c.slice_known-1.given k).fits in
    let v : Proper (route a.addr a.len a.hop) = sound_proper (route a.addr a.len a.hop) c.ranges.addr.fits c.requires.1.1 in
    let old : is_at a.room.now (count_in a.room.now) c.place-at.result a.addr a.len ≡ true = sym c.is_at.ensures ∙ c.if-is_at.true in
    rw (sym c.set_record.ensures) at (put_done_old a.room.now words l a.addr a.len c.place-at.result c.place-at.ensures old a.hop v)

pub returns-then-n-eq1024 : goal.returns-then-n-eq1024
returns-then-n-eq1024 c =
    let a = c.args in
    let l : Live a.room.now = live_is a.room.now c.requires.0 in
    let words : Words a.room.now = λ k. (c.slice_known-1.given k).fits in
    let v : Proper (route a.addr a.len a.hop) = sound_proper (route a.addr a.len a.hop) c.ranges.addr.fits c.requires.1.1 in
    let new : is_at a.room.now (count_in a.room.now) c.place-at.result a.addr a.len ≡ false = sym c.is_at.ensures ∙ c.if-is_at.false in
    rw c.at.ensures (put_17 a.room.now words l a.addr a.len c.place-at.result c.place-at.ensures new a.hop v c.if-n-eq1024.true)

pub held_with-requires : goal.held_with-requires
unfolding shown
held_with-requires c =
    let a = c.args in
    let l : Live a.room.now = live_is a.room.now c.requires.0 in
    let words : Words a.room.now = λ k. (c.slice_known-1.given k).fits in
    let v : Proper (route a.addr a.len a.hop) = sound_proper (route a.addr a.len a.hop) c.ranges.addr.fits c.requires.1.1 in
    let told : a.held ≡ nodes 32 (shown_from a.room.now 0 (count_in a.room.now)) = c.requires.1.0 in
    let new : is_at a.room.now (count_in a.room.now) c.place-at.result a.addr a.len ≡ false = sym c.is_at.ensures ∙ c.if-is_at.false in
    record {
      holds = (l.holds, (l.few, (c.place-at.ensures.low, v.valid.short)));
      table = (table_from a.room.now words l, told);
      table_2 = with_table a.room.now words l a.addr a.len c.place-at.result c.place-at.ensures new a.hop v;
    }

pub returns-then-room-held_with : goal.returns-then-room-held_with
returns-then-room-held_with c =
    let a = c.args in
    let l : Live a.room.now = live_is a.room.now c.requires.0 in
    let words : Words a.room.now = λ k. (c.slice_known-1.given k).fits in
    let v : Proper (route a.addr a.len a.hop) = sound_proper (route a.addr a.len a.hop) c.ranges.addr.fits c.requires.1.1 in
    let new : is_at a.room.now (count_in a.room.now) c.place-at.result a.addr a.len ≡ false = sym c.is_at.ensures ∙ c.if-is_at.false in
    rw c.at-then-room-held_with.ensures (put_10 a.room.now words l a.addr a.len c.place-at.result c.place-at.ensures new a.hop v c.if-n-eq1024.false _ c.held_with.ensures c.if-room-held_with.true)

pub insert-requires : goal.insert-requires
insert-requires c =
    let a = c.args in
    let l : Live a.room.now = live_is a.room.now c.requires.0 in
    let words : Words a.room.now = λ k. (c.slice_known-1.given k).fits in
    let v : Proper (route a.addr a.len a.hop) = sound_proper (route a.addr a.len a.hop) c.ranges.addr.fits c.requires.1.1 in
    let new : is_at a.room.now (count_in a.room.now) c.place-at.result a.addr a.len ≡ false = sym c.is_at.ensures ∙ c.if-is_at.false in
    record {
      holds = (
        more_holds a.room.now words l a.addr a.len c.place-at.result c.place-at.ensures new a.hop v c.if-n-eq1024.false _ c.held_with.ensures c.if-room-held_with.false,
        (c.place-at.ensures.low, omega (arith, l.few)),
      );
      len_bound = (v.valid.short, v.hop_kept);
    }

pub returns : goal.returns
returns c =
    let a = c.args in
    let l : Live a.room.now = live_is a.room.now c.requires.0 in
    let words : Words a.room.now = λ k. (c.slice_known-1.given k).fits in
    let v : Proper (route a.addr a.len a.hop) = sound_proper (route a.addr a.len a.hop) c.ranges.addr.fits c.requires.1.1 in
    let new : is_at a.room.now (count_in a.room.now) c.place-at.result a.addr a.len ≡ false = sym c.is_at.ensures ∙ c.if-is_at.false in
    rw (sym c.insert.ensures) at (put_done_new a.room.now words l a.addr a.len c.place-at.result c.place-at.ensures new a.hop v c.if-n-eq1024.false _ c.held_with.ensures c.if-room-held_with.false)
