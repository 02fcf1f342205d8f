-- The line of each status, without the line feed at its end, and the verdict on a lawful history.
use Rattle.std.specs.Prelude.{ℕ, List, [], ◌∷◌, ◌++◌, codes, decimal}
use Rattle.std.specs.List.{flat_map}
use Rattle.qs_book_script.specs.declared.status.ScriptFault.{ScriptFault}
use Rattle.qs_book_script.specs.declared.status.ScriptFault.TheVariants as faults
use Rattle.qs_book_script.specs.declared.status.Waiting.{Waiting}
use Rattle.qs_book_script.specs.declared.status.Status.{Status}
use Rattle.qs_book_script.specs.declared.status.Status.TheVariants.{Finished, Usage, Script, ReadFault, WriteFault, DiskFault, Damaged, Unfinished, NoMemory, NoRoom, Unlawful, Journal, LastGeneration}

abbrev pub fault_text : ScriptFault → List ℕ
fault_text faults.TooLarge = codes "too large"
fault_text faults.BadByte = codes "bad byte"
fault_text faults.BadWord = codes "bad word"
fault_text faults.BadCount = codes "bad count"
fault_text faults.Unknown = codes "unknown"
fault_text faults.Twice = codes "twice"
fault_text faults.Limit = codes "limit"
fault_text faults.Open = codes "open"

-- a client that waits, with its line
abbrev pub one_waiting_text : Waiting → List ℕ
one_waiting_text one = codes " " ++ (decimal one.client.0 ++ (codes ":" ++ decimal one.line))

abbrev pub waiting_text : List Waiting → List ℕ
waiting_text [] = codes " none"
waiting_text (one ∷ more) = flat_map one_waiting_text (one ∷ more)

-- the words of a status; of one that is not finished without the clients that wait
abbrev pub status_words : Status → List ℕ
status_words Finished = codes "qs: finished"
status_words Usage = codes "qs: usage: qs run N [--serial SEED] [--journal]"
status_words (Script line fault) = codes "qs: script line " ++ (decimal line ++ (codes ": " ++ fault_text fault))
status_words ReadFault = codes "qs: read fault"
status_words WriteFault = codes "qs: write fault"
status_words (DiskFault node) = codes "qs: disk fault at node " ++ decimal node.0
status_words (Damaged node at) = codes "qs: damaged disk of node " ++ (decimal node.0 ++ (codes " at byte " ++ decimal at))
status_words (Unfinished rounds waiting) = codes "qs: unfinished after " ++ (decimal rounds ++ codes " rounds, waiting")
status_words NoMemory = codes "qs: no memory"
status_words (NoRoom node need room) =
    codes "qs: no room on node " ++ (decimal node.0 ++ (codes ": need " ++ (decimal need ++ (codes " room " ++ decimal room))))
status_words (Unlawful line clause) = codes "qs: unlawful at line " ++ (decimal line ++ (codes ": clause " ++ decimal clause))
status_words (Journal line) = codes "qs: no journal at line " ++ decimal line
status_words (LastGeneration node) = codes "qs: last generation on node " ++ decimal node.0

abbrev pub clients_text : Status → List ℕ
clients_text (Unfinished rounds waiting) = waiting_text waiting
clients_text _ = []

abbrev pub status_text : Status → List ℕ
status_text status = status_words status ++ clients_text status

-- what the form `check` gives of a lawful history of so many entries
abbrev pub lawful_text : ℕ → List ℕ
lawful_text entries = codes "lawful " ++ (decimal entries ++ codes "\n")
