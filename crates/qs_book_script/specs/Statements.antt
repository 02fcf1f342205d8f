-- What a line of a script says by its words alone.
use Rattle.std.specs.Prelude.{ℕ, ◌^◌, ◌-◌, Bool, true, false, not, ◌&&◌, ◌||◌, ◌==◌, List, [], length, Option, Some, None, nat_lt, get_or, codes, if◌then◌else◌}
use Rattle.std.specs.List.{list_all}
use Rattle.qs_base.specs.Order.{same_bytes}
use Rattle.qs_base.specs.declared.identifiers.ClientNo.{ClientNo}
use Rattle.qs_base.specs.declared.identifiers.NodeNo.{NodeNo}
use Rattle.qs_book_journal.specs.declared.script_line.Command.{Command}
use Rattle.qs_book_journal.specs.declared.script_line.Command.TheVariants as commands
use Rattle.qs_book_journal.specs.declared.script_line.PointKind.{PointKind}
use Rattle.qs_book_journal.specs.declared.script_line.PointKind.TheVariants as kinds
use Rattle.qs_ops.specs.Servers.{files_no, audit_no, names_no, timers_no, windows_no, scratch_no}
use Rattle.qs_ops.specs.declared.operation.Op.{Op}
use Rattle.qs_ops.specs.declared.operation.Op.TheVariants as ops
use Rattle.qs_book_script.specs.Lines.{words_of, is_skipped, is_printable, is_label}
use Rattle.qs_book_script.specs.Numbers.{is_decimal, number_of}
use Rattle.qs_book_script.specs.declared.script.Planned.TheVariants as plans
use Rattle.qs_book_script.specs.declared.statement.Statement.{Statement}
use Rattle.qs_book_script.specs.declared.statement.Statement.TheVariants.{Nothing, Seated, Limited, Audited, Fault, Order, Lend, Unreadable}
use Rattle.qs_book_script.specs.declared.status.ScriptFault.TheVariants.{BadByte, BadWord, BadCount}

-- ---- words

abbrev pub word_at : List (List ℕ) → ℕ → List ℕ
word_at words at = get_or words at []

-- A number may be of any length. What is past a number's type is read as its last value: no limit is as great.
abbrev pub or_last : Option ℕ → ℕ
or_last None = 2 ^ 64 - 1
or_last (Some number) = number

abbrev pub number_at : List (List ℕ) → ℕ → ℕ
number_at words at = or_last (number_of (word_at words at))

abbrev pub low : ℕ → ℕ → ℕ
low last number = if nat_lt number last then number else last

abbrev pub node_at : List (List ℕ) → ℕ → NodeNo
node_at words at = record { 0 = low 255 (number_at words at) }

abbrev pub client_at : List (List ℕ) → ℕ → ClientNo
client_at words at = record { 0 = low 255 (number_at words at) }

abbrev pub is_number_at : List (List ℕ) → ℕ → Bool
is_number_at words at = is_decimal (word_at words at)

abbrev pub is_label_at : List (List ℕ) → ℕ → Bool
is_label_at words at = is_label (word_at words at)

-- ---- lines of one shape: so many words, each in its spelling

abbrev pub shaped : List (List ℕ) → ℕ → Bool → Statement → Statement
shaped words count spelled statement =
    if not (length words == count) then Unreadable BadCount else if spelled then statement else Unreadable BadWord

-- client K N
abbrev pub client_line : List (List ℕ) → Statement
client_line words = shaped words 3 (is_number_at words 1 && is_number_at words 2)
    (Seated (record { client = client_at words 1; node = node_at words 2 }))

-- quota N BYTES
abbrev pub quota_line : List (List ℕ) → Statement
quota_line words = shaped words 3 (is_number_at words 1 && is_number_at words 2)
    (Limited (record { node = node_at words 1; bytes = number_at words 2 }))

-- audit N
abbrev pub audit_line : List (List ℕ) → Statement
audit_line words = shaped words 2 (is_number_at words 1) (Audited (node_at words 1))

-- crash N E
abbrev pub crash_line : List (List ℕ) → Statement
crash_line words = shaped words 3 (is_number_at words 1 && is_number_at words 2)
    (Fault (plans.Crash (node_at words 1) (number_at words 2)))

-- stop N C
abbrev pub stop_line : List (List ℕ) → Statement
stop_line words = shaped words 3 (is_number_at words 1 && is_number_at words 2)
    (Fault (plans.Stop (node_at words 1) (number_at words 2)))

-- the kinds of entries that a fault line may name
abbrev pub is_kind : List ℕ → Bool
is_kind word =
    same_bytes word (codes "serve") || (same_bytes word (codes "vote") || (same_bytes word (codes "decide") || same_bytes word (codes "learn")))

abbrev pub kind_of : List ℕ → PointKind
kind_of word =
    if same_bytes word (codes "serve") then kinds.Serve
    else if same_bytes word (codes "vote") then kinds.Vote
    else if same_bytes word (codes "decide") then kinds.Decide
    else kinds.Learn

-- before N KIND T, after N KIND T
abbrev pub point_line : Bool → List (List ℕ) → Statement
point_line after words = shaped words 4 (is_number_at words 1 && (is_kind (word_at words 2) && is_label_at words 3))
    (Fault (plans.At (node_at words 1) (record { after = after; kind = kind_of (word_at words 2); label = word_at words 3 })))

abbrev pub are_numbers_to : List (List ℕ) → ℕ → Bool
are_numbers_to words three = is_number_at words 1 && (is_number_at words 2 && is_number_at words three)

-- drop N M P
abbrev pub drop_line : List (List ℕ) → Statement
drop_line words = shaped words 4 (are_numbers_to words 3) (Fault (plans.Drop (node_at words 1) (node_at words 2) (number_at words 3)))

-- repeat N M P
abbrev pub repeat_line : List (List ℕ) → Statement
repeat_line words = shaped words 4 (are_numbers_to words 3) (Fault (plans.Again (node_at words 1) (node_at words 2) (number_at words 3)))

-- hold N M P C
abbrev pub hold_line : List (List ℕ) → Statement
hold_line words = shaped words 5 (are_numbers_to words 3 && is_number_at words 4)
    (Fault (plans.Hold (node_at words 1) (node_at words 2) (number_at words 3) (number_at words 4)))

-- ---- commands of clients

abbrev pub is_short : List ℕ → Bool
is_short word =
    same_bytes word (codes "begin") || (same_bytes word (codes "commit") || (same_bytes word (codes "abort")
    || (same_bytes word (codes "take") || same_bytes word (codes "yield"))))

abbrev pub short_command : List ℕ → Command
short_command word =
    if same_bytes word (codes "begin") then commands.Begin
    else if same_bytes word (codes "commit") then commands.Commit
    else if same_bytes word (codes "abort") then commands.Abort
    else if same_bytes word (codes "take") then commands.Take
    else commands.Yield

-- K begin T, K commit T, K abort T, K take T, K yield T
abbrev pub short_line : List (List ℕ) → Statement
short_line words = shaped words 3 (is_label_at words 2) (Order (client_at words 0) (word_at words 2) (short_command (word_at words 1)))

-- K lend T J
abbrev pub lend_line : List (List ℕ) → Statement
lend_line words = shaped words 4 (is_label_at words 2 && is_number_at words 3)
    (Lend (client_at words 0) (word_at words 2) (client_at words 3))

-- a request to a server of the node that the third word behind the client names
abbrev pub request : List (List ℕ) → ℕ → Op → Statement
request words server op = Order (client_at words 0) (word_at words 2)
    (commands.Request (record { node = node_at words 3; server = record { 0 = server } }) op)

-- the client's label and node
abbrev pub is_addressed : List (List ℕ) → Bool
is_addressed words = is_label_at words 2 && is_number_at words 3

abbrev pub is_text_word : List ℕ → Bool
is_text_word word =
    same_bytes word (codes "put") || (same_bytes word (codes "append") || (same_bytes word (codes "bind")
    || (same_bytes word (codes "window") || same_bytes word (codes "keep"))))

abbrev pub text_request : List (List ℕ) → List ℕ → List ℕ → List ℕ → Statement
text_request words word name text =
    if same_bytes word (codes "put") then request words files_no (ops.Put name text)
    else if same_bytes word (codes "append") then request words files_no (ops.Append name text)
    else if same_bytes word (codes "bind") then request words names_no (ops.Bind name text)
    else if same_bytes word (codes "window") then request words windows_no (ops.Window name text)
    else request words scratch_no (ops.Keep name text)

-- K put T N NAME TEXT, and append, bind, window, keep
abbrev pub text_line : List (List ℕ) → Statement
text_line words = shaped words 6 (is_addressed words) (text_request words (word_at words 1) (word_at words 4) (word_at words 5))

abbrev pub is_name_word : List ℕ → Bool
is_name_word word =
    same_bytes word (codes "get") || (same_bytes word (codes "del") || (same_bytes word (codes "find")
    || (same_bytes word (codes "left") || (same_bytes word (codes "title") || same_bytes word (codes "fetch")))))

abbrev pub name_request : List (List ℕ) → List ℕ → List ℕ → Statement
name_request words word name =
    if same_bytes word (codes "get") then request words files_no (ops.Get name)
    else if same_bytes word (codes "del") then request words files_no (ops.Del name)
    else if same_bytes word (codes "find") then request words names_no (ops.Find name)
    else if same_bytes word (codes "left") then request words timers_no (ops.Left name)
    else if same_bytes word (codes "title") then request words windows_no (ops.Title name)
    else request words scratch_no (ops.Fetch name)

-- K get T N NAME, and del, find, left, title, fetch
abbrev pub name_line : List (List ℕ) → Statement
name_line words = shaped words 5 (is_addressed words) (name_request words (word_at words 1) (word_at words 4))

-- K timer T N NAME TICKS
abbrev pub timer_line : List (List ℕ) → Statement
timer_line words = shaped words 6 (is_addressed words && is_number_at words 5)
    (request words timers_no (ops.Timer (word_at words 4) (low 4294967295 (number_at words 5))))

-- K note T N TEXT
abbrev pub note_line : List (List ℕ) → Statement
note_line words = shaped words 5 (is_addressed words) (request words audit_no (ops.Note (word_at words 4)))

-- K list T N
abbrev pub list_line : List (List ℕ) → Statement
list_line words = shaped words 4 (is_addressed words) (request words files_no ops.Listing)

-- K notes T N
abbrev pub notes_line : List (List ℕ) → Statement
notes_line words = shaped words 4 (is_addressed words) (request words audit_no ops.Notes)

-- the line of a client with one of the command words that are left
abbrev pub other_line : List (List ℕ) → List ℕ → Statement
other_line words word =
    if same_bytes word (codes "timer") then timer_line words
    else if same_bytes word (codes "note") then note_line words
    else if same_bytes word (codes "list") then list_line words
    else if same_bytes word (codes "notes") then notes_line words
    else Unreadable BadWord

-- the line of a client, by its command word
abbrev pub command_line : List (List ℕ) → List ℕ → Statement
command_line words word =
    if is_short word then short_line words
    else if same_bytes word (codes "lend") then lend_line words
    else if is_text_word word then text_line words
    else if is_name_word word then name_line words
    else other_line words word

-- a client's number needs a command word behind it
abbrev pub client_says : List (List ℕ) → Statement
client_says words = if length words == 1 then Unreadable BadCount else command_line words (word_at words 1)

-- ---- the whole line

-- a line about a crash, a disk call or a packet, by its leading word
abbrev pub link_line : List (List ℕ) → List ℕ → Statement
link_line words word =
    if same_bytes word (codes "crash") then crash_line words
    else if same_bytes word (codes "stop") then stop_line words
    else if same_bytes word (codes "drop") then drop_line words
    else if same_bytes word (codes "repeat") then repeat_line words
    else if same_bytes word (codes "hold") then hold_line words
    else Unreadable BadWord

-- a line about faults, by its leading word
abbrev pub fault_line : List (List ℕ) → List ℕ → Statement
fault_line words word =
    if same_bytes word (codes "before") then point_line false words
    else if same_bytes word (codes "after") then point_line true words
    else link_line words word

-- a line that is not skipped, by its leading word: the number of a client, or what the line is about
abbrev pub led_by : List (List ℕ) → List ℕ → Statement
led_by words word =
    if is_decimal word then client_says words
    else if same_bytes word (codes "client") then client_line words
    else if same_bytes word (codes "quota") then quota_line words
    else if same_bytes word (codes "audit") then audit_line words
    else fault_line words word

abbrev pub words_state : List (List ℕ) → Statement
words_state words = if is_skipped words then Nothing else led_by words (word_at words 0)

-- what a line says; first its bytes are looked at, also those of a line that is skipped
abbrev pub line_states : List ℕ → Statement
line_states line = if not (list_all is_printable line) then Unreadable BadByte else words_state (words_of line)
