-- The words of a line, and which numbers, identifiers and members they are.
use Rattle.std.specs.Prelude.{ℕ, ◌^◌, ◌==◌, Bool, List, [], take, drop, Option, Some, None, codes, if◌then◌else◌}
use Rattle.std.specs.List.{slice_split, list_all, before_first, after_first}
use Rattle.qs_base.specs.Order.{same_bytes}
use Rattle.qs_base.specs.declared.identifiers.Member.{Member}
use Rattle.qs_base.specs.declared.identifiers.Tid.{Tid}
use Rattle.qs_book_journal.specs.declared.entry.Found.{Found}
use Rattle.qs_ops.specs.Servers.{files_no, audit_no, names_no, timers_no, windows_no, scratch_no, extra_no, client_no}
use Rattle.qs_book_script.specs.Numbers.{below, number_of}
use Rattle.qs_text_history.specs.Words.{is_word}

abbrev pub words_if : List (List ℕ) → Bool → List (List ℕ)
words_if words good = if good then words else []

-- the words of a line stand between its blanks; a line with another part than a word has none
unfoldable pub words_of : List ℕ → List (List ℕ)
words_of line = words_if (slice_split (λ byte. byte == 32) line) (list_all is_word (slice_split (λ byte. byte == 32) line))

-- ---- numbers

-- the number of 64 bits that a word is
unfoldable pub wide_of : List ℕ → Option ℕ
wide_of word = number_of word

-- the number below a limit that a word is
unfoldable pub number_below : ℕ → List ℕ → Option ℕ
number_below limit word = below limit (wide_of word)

-- ---- identifiers

-- what stands before the first of these bytes in a word, or the whole word
abbrev pub before : ℕ → List ℕ → List ℕ
before mark word = before_first (λ byte. byte == mark) word

-- what stands behind it, or nothing
abbrev pub after : ℕ → List ℕ → List ℕ
after mark word = after_first (λ byte. byte == mark) word

abbrev pub tid_with : Option ℕ → Option ℕ → Option ℕ → Option Tid
tid_with (Some home) (Some inc) (Some seq) = Some (record { home = record { 0 = home }; inc = inc; seq = seq })
tid_with _ _ _ = None

-- home.inc.seq; 46 is the dot
unfoldable pub tid_of : List ℕ → Option Tid
tid_of word =
    tid_with (number_below 256 (before 46 word)) (wide_of (before 46 (after 46 word))) (number_below (2 ^ 32) (after 46 (after 46 word)))

-- ---- members

abbrev pub borrower_with : Option ℕ → Option ℕ
borrower_with None = None
borrower_with (Some client) = Some (client_no client)

-- clientK, as the server number of that borrower
abbrev pub borrower_of : List ℕ → Option ℕ
borrower_of word = if same_bytes (take 6 word) (codes "client") then borrower_with (below 224 (number_below 256 (drop 6 word))) else None

-- the number of the server with that name
unfoldable pub server_of : List ℕ → Option ℕ
server_of word =
    if same_bytes word (codes "files") then Some files_no
    else if same_bytes word (codes "audit") then Some audit_no
    else if same_bytes word (codes "names") then Some names_no
    else if same_bytes word (codes "timers") then Some timers_no
    else if same_bytes word (codes "windows") then Some windows_no
    else if same_bytes word (codes "scratch") then Some scratch_no
    else if same_bytes word (codes "extra") then Some extra_no
    else None

-- a server's name, or clientK
abbrev pub part_with : Option ℕ → Option ℕ → Option ℕ
part_with (Some server) borrower = Some server
part_with None borrower = borrower

unfoldable pub part_of : List ℕ → Option ℕ
part_of word = part_with (server_of word) (borrower_of word)

abbrev pub member_with : Option ℕ → Option ℕ → Option Member
member_with (Some server) (Some node) = Some (record { node = record { 0 = node }; server = record { 0 = server } })
member_with _ _ = None

-- SERVER@NODE; 64 is the at sign
unfoldable pub member_of : List ℕ → Option Member
member_of word = member_with (part_of (before 64 word)) (number_below 256 (after 64 word))

-- ---- what a restart found

abbrev pub found_with : Option Tid → Option ℕ → Option ℕ → Option Found
found_with (Some tid) (Some server) (Some covers) = Some (record { tid = tid; server = record { 0 = server }; covers = covers })
found_with _ _ _ = None

-- TID:SERVER:COVERS; 58 is the colon
abbrev pub found_in : List ℕ → Option Found
found_in word =
    found_with (tid_of (before 58 word)) (number_below 256 (before 58 (after 58 word))) (number_below (2 ^ 32) (after 58 (after 58 word)))

-- pend:TID:SERVER:COVERS
unfoldable pub found_of : List ℕ → Option Found
found_of word = if same_bytes (before 58 word) (codes "pend") then found_in (after 58 word) else None

unfoldable pub is_done : List ℕ → Bool
is_done word = same_bytes (before 58 word) (codes "done")

-- done:TID
unfoldable pub done_of : List ℕ → Option Tid
done_of word = if is_done word then tid_of (after 58 word) else None
