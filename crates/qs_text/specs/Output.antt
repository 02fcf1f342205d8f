-- The output of a run, as a function of its script, its history and the book after it.
use Rattle.std.specs.Prelude.{ℕ, zero, suc, ◌+◌, ◌==◌, Bool, true, false, ◌&&◌, List, [], ◌∷◌, ◌++◌, Option, Some, None, is_some, map, nat_lt, codes, decimal, if◌then◌else◌}
use Rattle.std.specs.List.{flat_map, count_by, list_any}
use Rattle.qs_base.specs.declared.identifiers.ClientNo.{ClientNo}
use Rattle.qs_base.specs.declared.identifiers.Tid.{Tid}
use Rattle.qs_ops.specs.declared.answer.Answer.{Answer}
use Rattle.qs_ops.specs.declared.file.File.{File}
use Rattle.qs_book_journal.specs.declared.entry.Act.{Act}
use Rattle.qs_book_journal.specs.declared.entry.Act.TheVariants as acts
use Rattle.qs_book_journal.specs.declared.entry.Entry.{Entry}
use Rattle.qs_book_machine.specs.Book.{BookValue, find_transaction}
use Rattle.qs_book_machine.specs.Nodes.{NodeValue}
use Rattle.qs_book_machine.specs.Transaction.{TransactionValue, is_commit, is_abort}
use Rattle.qs_text_script.specs.Answers.{told_text}
use Rattle.qs_text_script.specs.Journal.{journal_text}
use Rattle.qs_book_script.specs.declared.script.Script.{Script}
use Rattle.qs_book_script.specs.declared.script.Seat.{Seat}

-- ---- clients

abbrev pub label_in : Option TransactionValue → Option (List ℕ)
label_in None = None
label_in (Some tx) = tx.label

-- the label under which a transaction was begun in this run
abbrev pub label_of : BookValue → Tid → Option (List ℕ)
label_of book tid = label_in (find_transaction book tid)

-- LINE ANSWER
abbrev pub line_text : BookValue → ℕ → Answer → List ℕ
line_text book line answer = told_text (label_of book) line answer ++ codes "\n"

abbrev pub act_text : BookValue → ClientNo → Act → List ℕ
act_text book client (acts.Answer other line answer) = if other.0 == client.0 then line_text book line answer else []
act_text book client _ = []

-- the answer that an entry gives to the client, if it gives one
abbrev pub entry_text : BookValue → ClientNo → Entry → List ℕ
entry_text book client entry = act_text book client entry.act

-- client K, and the answers to it in the order of the history
abbrev pub client_text : List Entry → BookValue → ClientNo → List ℕ
client_text history book client =
    (codes "client " ++ (decimal client.0 ++ codes "\n")) ++ flat_map (entry_text book client) history

abbrev pub is_seat_of : ℕ → Seat → Bool
is_seat_of number seat = seat.client.0 == number

-- the client of that number, if it has a seat
abbrev pub client_part : List Seat → List Entry → BookValue → ℕ → List ℕ
client_part seats history book number =
    if list_any (is_seat_of number) seats then client_text history book (record { 0 = number }) else []

-- so many numbers from one on
unfoldable pub clients_text : List Seat → List Entry → BookValue → ℕ → ℕ → List ℕ
clients_text seats history book number zero = []
clients_text seats history book number (suc left) =
    client_part seats history book number ++ clients_text seats history book (number + 1) left

-- ---- nodes

-- file NAME CONTENT
abbrev pub file_text : File → List ℕ
file_text file = codes "file " ++ (file.name ++ (codes " " ++ (file.content ++ codes "\n")))

-- note TEXT
abbrev pub note_text : List ℕ → List ℕ
note_text text = codes "note " ++ (text ++ codes "\n")

-- node N inc I
abbrev pub node_line : ℕ → NodeValue → List ℕ
node_line number node = codes "node " ++ (decimal number ++ (codes " inc " ++ (decimal node.inc ++ codes "\n")))

-- node N inc I, its files in byte order of their names, and its notes in order
abbrev pub node_text : ℕ → NodeValue → List ℕ
node_text number node = node_line number node ++ (flat_map file_text node.files.contents ++ flat_map note_text node.audit.notes)

-- the nodes from a number on; the last number is 255
abbrev pub nodes_text : ℕ → List NodeValue → List ℕ
nodes_text number [] = []
nodes_text number (node ∷ nodes) = node_text number node ++ (if nat_lt number 255 then nodes_text (number + 1) nodes else [])

-- ---- totals

abbrev pub transactions_of : BookValue → List TransactionValue
transactions_of book = map (λ (entry : Tid × TransactionValue). entry.1) book.transactions

-- a transaction has a label where it was begun in this run
abbrev pub is_begun : TransactionValue → Bool
is_begun tx = is_some tx.label

abbrev pub is_committed : TransactionValue → Bool
is_committed tx = is_begun tx && is_commit tx.cell

abbrev pub is_aborted : TransactionValue → Bool
is_aborted tx = is_begun tx && is_abort tx.cell

abbrev pub restarts : Act → Bool
restarts (acts.Restart inc pend done) = true
restarts _ = false

abbrev pub is_restart : Entry → Bool
is_restart entry = restarts entry.act

-- totals begun B committed C aborted A restarts R
abbrev pub totals_line : ℕ → ℕ → ℕ → ℕ → List ℕ
totals_line begun committed aborted restarted =
    codes "totals begun " ++ (decimal begun ++ (codes " committed " ++ (decimal committed
    ++ (codes " aborted " ++ (decimal aborted ++ (codes " restarts " ++ (decimal restarted ++ codes "\n")))))))

-- the transactions that were begun, committed and aborted in this run, and the restarts of nodes
abbrev pub totals_text : List Entry → BookValue → List ℕ
totals_text history book = totals_line
    (count_by is_begun (transactions_of book))
    (count_by is_committed (transactions_of book))
    (count_by is_aborted (transactions_of book))
    (count_by is_restart history)

-- ---- the whole

-- the history, where the journal is asked for
abbrev pub shown_journal : List Entry → BookValue → Bool → List ℕ
shown_journal history book journal = if journal then journal_text (label_of book) history else []

-- the clients by number, which is below 256; the nodes; the totals; the history
abbrev pub out_of : Script → List Entry → BookValue → Bool → List ℕ
out_of script history book journal =
    clients_text script.seats history book 0 256
    ++ (nodes_text 0 book.nodes ++ (totals_text history book ++ shown_journal history book journal))
