-- What a program prints for the table that it read: the text of the right reply. Programs mask host bits.
use Rattle.std.specs.Prelude.{ℕ, ◌*◌, Bool, false, List, [], ltb}
use Rattle.records.specs.Sized.{records_in}
use Rattle.records.specs.declared.Form.{Form}
use Rattle.records.specs.Forms.{size_of, masking}
use Rattle.calls.specs.Rewriting.{rewrite_reply}
use Rattle.text.specs.Answers.{reply_text}

-- Read by a form, in a mode, with a default, without ranks, an output of `room` bytes and a work room of `words` words; the hops are left out in mode 1.
unfoldable pub printed_in : Form → ℕ → ℕ → ℕ → ℕ → List ℕ → List ℕ
printed_in form mode default room words t =
    reply_text (size_of form) false (ltb 1 mode) (records_in (size_of form) t) (rewrite_reply form t mode default [] room words)

-- By the program of a mode, for records of 8 bytes (document 01's) or of 16: fill has default 0, the output room for 1,025 records, the work room 16,384
-- words.
unfoldable pub printed : Bool → ℕ → List ℕ → List ℕ
printed long mode t = printed_in (masking long) mode 0 (1025 * size_of (masking long)) 16384 t
