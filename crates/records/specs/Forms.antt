-- How a table's bytes are read: the choice on host bits, and the size of a record.
use Rattle.std.specs.Prelude.{ℕ, Bool, true, false, cond}
use Rattle.records.specs.declared.Form.{Form}

-- The bytes of a record.
abbrev pub size_of : Form → ℕ
size_of form = cond form.long 16 8

-- Host bits are masked.
abbrev pub masking : Bool → Form
masking long = record { strict = false; long = long }

-- A record with host bits is refused, by number 6.
abbrev pub refusing : Bool → Form
refusing long = record { strict = true; long = long }

-- The two for records of 8 bytes.
abbrev pub by_default : Form
by_default = masking false

abbrev pub strictly : Form
strictly = refusing false
