-- What is given of a run, as a function of its script, its history and the book after it.
use Rattle.std.specs.Prelude.{ℕ, true, false, List, ◌++◌, length, codes, decimal}
use Rattle.std.specs.List.{count_by}
use Rattle.hex.specs.Hex.{encode_lower}
use Rattle.sha2.specs.Sha256.{sha256}
use Rattle.qs_book_journal.specs.declared.entry.Entry.{Entry}
use Rattle.qs_book_machine.specs.Book.{BookValue}
use Rattle.qs_book_script.specs.declared.script.Script.{Script}
use Rattle.qs_text.specs.Output.{is_aborted, is_committed, out_of, transactions_of}
use Rattle.qs_text.specs.declared.given.Shown.{Shown}
use Rattle.qs_text.specs.declared.given.Shown.TheVariants as shows

-- load SEED commands K committed C aborted A digest HEX
abbrev pub load_line : ℕ → ℕ → ℕ → ℕ → List ℕ → List ℕ
load_line seed commands committed aborted digest =
    codes "load " ++ (decimal seed ++ (codes " commands " ++ (decimal commands ++ (codes " committed " ++ (decimal committed
    ++ (codes " aborted " ++ (decimal aborted ++ (codes " digest " ++ (digest ++ codes "\n")))))))))

-- the commands of the script, the transactions of this run that are committed and aborted, and the digest of the output
abbrev pub load_of : ℕ → Script → List Entry → BookValue → List ℕ
load_of seed script history book = load_line seed (length script.lines)
    (count_by is_committed (transactions_of book)) (count_by is_aborted (transactions_of book))
    (encode_lower (sha256 (out_of script history book false)))

-- the output, the output with the history, or the line of a load
abbrev pub given_of : Script → List Entry → BookValue → Shown → List ℕ
given_of script history book shows.Output = out_of script history book false
given_of script history book shows.Journal = out_of script history book true
given_of script history book (shows.Load seed) = load_of seed script history book
