-- The lengths in bytes that a call keeps to: of a label, of contents and ciphertext, and of the work memory.
use Rattle.std.specs.Prelude.{ℕ}

abbrev pub label_limit : ℕ
label_limit = 4096

abbrev pub contents_limit : ℕ
contents_limit = 1048576

abbrev pub work_length : ℕ
work_length = 64
