-- Who uses the transactions of a script, by their labels.
use Rattle.std.specs.Prelude.{ℕ, Bool, not, ◌&&◌, ◌==◌, List, [], ◌∷◌, ◌++◌, length, unwrap_or, if◌then◌else◌}
use Rattle.std.specs.BTreeMap.{insert_entry, is_at}
use Rattle.std.specs.List.{list_any}
use Rattle.std.specs.Map.{lookup}
use Rattle.qs_base.specs.Order.{bytes_cmp, same_bytes}
use Rattle.qs_base.specs.declared.identifiers.ClientNo.{ClientNo}
use Rattle.qs_book_journal.specs.declared.script_line.ScriptLine.{ScriptLine}
use Rattle.qs_text_script.specs.Rules.{is_begin, is_take}
use Rattle.qs_text_script.specs.declared.label_index.Users.{Users}

-- the client is this one
abbrev pub is_client_of : ℕ → ClientNo → Bool
is_client_of client one = one.0 == client

-- the client is one of these
abbrev pub has_client : ℕ → List ClientNo → Bool
has_client client clients = list_any (is_client_of client) clients

-- with this client, if so
abbrev pub with_client : Bool → ClientNo → List ClientNo → List ClientNo
with_client added client clients = if added then clients ++ client ∷ [] else clients

-- with this client, if so, unless it is among them
abbrev pub with_new_client : Bool → ClientNo → List ClientNo → List ClientNo
with_new_client added client clients = with_client (added && not (has_client client.0 clients)) client clients

-- no clients
abbrev pub nobody : Users
nobody = record { owners = []; takers = [] }

-- with the client of a command that begins or takes the transaction
abbrev pub with_user : ScriptLine → Users → Users
with_user line users = record {
  owners = with_client (is_begin line.command) line.client users.owners;
  takers = with_new_client (is_take line.command) line.client users.takers;
}

-- the users of a label after one more command, of that label or another
abbrev pub users_after : List ℕ → ScriptLine → Users → Users
users_after label line users = if same_bytes line.label label then with_user line users else users

-- the users of a label
abbrev pub users_of : List ℕ → List (List ℕ × Users) → Users
users_of label index = unwrap_or (lookup (is_at (bytes_cmp label)) index) nobody

-- the index after one more command, which begins or takes the transaction of its label
abbrev pub with_user_of : ScriptLine → List (List ℕ × Users) → List (List ℕ × Users)
with_user_of line index = insert_entry bytes_cmp index line.label (with_user line (users_of line.label index))

-- some client began it
abbrev pub is_begun_by : Users → Bool
is_begun_by users = not (length users.owners == 0)
