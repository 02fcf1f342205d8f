-- The servers of a node by number, as identifiers, logs and histories have them. A client to whom a transaction was lent is
-- a member too: client k has the number 32 + k.
use Rattle.std.specs.Prelude.{ℕ, ◌+◌, Bool, nat_lt}

abbrev pub files_no : ℕ
files_no = 0

abbrev pub audit_no : ℕ
audit_no = 1

abbrev pub names_no : ℕ
names_no = 2

abbrev pub timers_no : ℕ
timers_no = 3

abbrev pub windows_no : ℕ
windows_no = 4

abbrev pub scratch_no : ℕ
scratch_no = 5

-- the further server
abbrev pub extra_no : ℕ
extra_no = 6

-- a client as a member
abbrev pub client_no : ℕ → ℕ
client_no client = client + 32

abbrev pub is_client_no : ℕ → Bool
is_client_no server = nat_lt 31 server
