-- What the program writes for the table that it read: the slot image to standard output, or a refusal's line to standard error.
use Rattle.std.specs.Prelude.{ℕ, ◌≤◌, ◌≡◌, List, [], length, take}
use Rattle.theory.specs.Routes.{Route}
use Rattle.refusals.specs.Rules.{Reply, gives, refuses, judge}
use Rattle.records.specs.Forms.{by_default}
use Rattle.chip.specs.Images.{image_of}
use Rattle.chip.specs.Loading.{load_rules, load_order}
use Rattle.text.specs.Text.{Put, refused_line}
use Rattle.chip_image.specs.declared.Written.{Written}

-- The right reply: host bits are masked, and the image has 8,192 bytes.
unfoldable pub load_reply : List ℕ → Reply (List Route)
load_reply t = judge (load_rules by_default t 8192) (load_order t)

-- To standard output: the image, or nothing.
abbrev pub shown_for : Reply (List Route) → List ℕ
shown_for (gives rs) = image_of rs
shown_for (refuses number index) = []

-- To standard error: nothing, or the line of a refusal.
abbrev pub said_for : Reply (List Route) → List ℕ
said_for (gives rs) = []
said_for (refuses number index) = refused_line number index

-- What is to be written out stands at the start of the image m', and of the line l', which was l.
pub record Answered (t l : List ℕ) (r : Written) (m' l' : List ℕ) : Type 0 where
  pub fits : r.shown ≤ length m'
  pub shows : take r.shown m' ≡ shown_for (load_reply t)
  pub says : Put (said_for (load_reply t)) 0 r.said l l'
