-- What the program replay keeps for a case with a call that takes tables of both sizes, or with addresses held: the text of the right answer. Addresses of
-- 64 bits are in hex digits.
use Rattle.std.specs.Prelude.{ℕ, true, cond, List, eqb, ltb}
use Rattle.refusals.specs.Rules.{judge}
use Rattle.records.specs.Sized.{records_in}
use Rattle.records.specs.declared.Form.{Form}
use Rattle.records.specs.Forms.{size_of}
use Rattle.lookup.specs.Calls.{lookup_reply, held_reply}
use Rattle.calls.specs.Rewriting.{reply_by, rewrite_reply}
use Rattle.calls.specs.Covering.{cover_reply}
use Rattle.holes.specs.Listing.{holes_of, unrouted_rules}
use Rattle.plain.specs.Rewriting.{plain_rules}
use Rattle.text.specs.Text.{addresses_line}
use Rattle.text.specs.Answers.{said, reply_text, cover_line, match_line, list_text}
use Rattle.kept.specs.Kept.{byte, call_by, form_by, address_of, words_of, room_of}

-- Of each call; the hops are left out in mode 1.
abbrev pub rewrite_answer : Form → List ℕ → ℕ → ℕ → List ℕ → ℕ → ℕ → List ℕ
rewrite_answer form t mode default ranks room words =
    reply_text (size_of form) true (ltb 1 mode) (records_in (size_of form) t) (rewrite_reply form t mode default ranks room words)

abbrev pub plain_answer : Form → List ℕ → ℕ → ℕ → List ℕ → ℕ → List ℕ
plain_answer form t mode default ranks room =
    reply_text (size_of form) true (ltb 1 mode) (records_in (size_of form) t)
    (reply_by (size_of form) (plain_rules form t mode default ranks room) t mode default ranks)

abbrev pub cover_answer : Form → List ℕ → ℕ → ℕ → ℕ → List ℕ
cover_answer form t address len words = said cover_line (cover_reply form t address len words)

abbrev pub lookup_answer : Form → List ℕ → ℕ → List ℕ
lookup_answer form t address = said match_line (lookup_reply form t address)

abbrev pub held_answer : Form → List ℕ → List ℕ
held_answer form t = said addresses_line (held_reply form t)

abbrev pub list_answer : Form → List ℕ → ℕ → List ℕ
list_answer form t room = list_text (size_of form) true true (judge (unrouted_rules form t room) (holes_of (size_of form) t))

-- Of a case, by its call: 0 rewrite, 1 cover query, 2 lookup, else addresses held. Call 4, a list of what has no route, has `list_answer` for an output of
-- as many bytes as `words_of` says, and call 5, a rewrite by the plain engine, `plain_case`.
unfoldable pub answer_text : List ℕ → List ℕ → List ℕ → List ℕ → List ℕ
answer_text head query t ranks =
    let form = form_by (byte head 0) in
    let call = call_by (byte head 0) in
    cond (eqb call 0) (rewrite_answer form t (byte head 1) (byte head 2) ranks (room_of head) (words_of head))
    (cond (eqb call 1) (cover_answer form t (address_of head query) (byte head 3) (words_of head))
    (cond (eqb call 2) (lookup_answer form t (address_of head query))
    (held_answer form t)))

-- Of a case with call 5.
abbrev pub plain_case : List ℕ → List ℕ → List ℕ → List ℕ
plain_case head t ranks = plain_answer (form_by (byte head 0)) t (byte head 1) (byte head 2) ranks (room_of head)
