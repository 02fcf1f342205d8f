-- Facts about a history that was read.
use Rattle.std.proofs.Common.{◌≡◌, ◌≤◌, ℕ, ◌+◌, suc, List, [], ◌∷◌, ◌++◌, length, Result, Ok, Err, refl, sym, ◌∙◌, ap, arith, length-append}
use Rattle.std.specs.Prelude.{IfOk, IsErrOf, MatchResult}
use Rattle.qs_book_journal.specs.declared.entry.Entry.{Entry}
use Rattle.qs_book_machine.specs.declared.opened.Opened.{Opened}
use Rattle.qs_book_script.specs.Lines.{lines_of}
use Rattle.qs_text_history.specs.Journal.{opening_lines, AreLines, IsJournal, IsFault}
use Rattle.qs_text_history.specs.Inner.Read.{IsRead}
use Rattle.qs_text_history.specs.declared.journal.Journal.{Journal}
use Rattle.qs_text_history.specs.declared.reading.JournalFailed.{JournalFailed}
use Rattle.qs_text_history.specs.declared.reading.JournalFailed.TheVariants.{Fault, NoMemory}
use Rattle.qs_text_history.proofs.PrintedLemmas.{read_is_journal}
use Rattle.qs_text_history.proofs.RoundLemmas.{Whole, journal_is_read, read_is, no_fault}

journal_of : (text : List ℕ) (journal : Journal) → IsRead text journal → IsJournal (lines_of text) journal.opened journal.entries
journal_of text journal r = rw (r.opened, r.entries) (read_is_journal (lines_of text) r.reading r.reads r.is_whole)

pub all_journals : (text : List ℕ) (result : Result Journal JournalFailed) → IfOk result (λ journal. IsRead text journal) → IfOk result (λ journal. IsJournal (lines_of text) journal.opened journal.entries)
all_journals text (Ok journal) r = journal_of text journal r
all_journals text (Err failed) r = tt

lines_counted : (before entries : List Entry) (lines : List (List ℕ)) → AreLines before entries lines → length lines ≡ length entries
lines_counted before [] lines are = ap length are
lines_counted before (entry ∷ entries) [] are = absurd are
lines_counted before (entry ∷ entries) (line ∷ lines) are = ap suc (lines_counted (before ++ entry ∷ []) entries lines are.1)

pub all_firsts : (text : List ℕ) (result : Result Journal JournalFailed) → IfOk result (λ journal. IsRead text journal) → IfOk result (λ journal. journal.first ≡ length (opening_lines journal.opened) + 1)
all_firsts text (Ok journal) r =
    let j = journal_of text journal r in
    let counted : length j.rest ≡ length journal.entries = lines_counted [] journal.entries j.rest j.entry_lines in
    let all : length (lines_of text) ≡ length (opening_lines journal.opened) + length j.rest = ap length j.whole ∙ length-append (opening_lines journal.opened) j.rest in
    let same : length journal.entries ≡ length r.reading.entries = ap length r.entries in
    omega (arith, counted, all, same, r.first)
all_firsts text (Err failed) r = tt

pub all_back : (text : List ℕ) (result : Result Journal JournalFailed) → IfOk result (λ journal. IsRead text journal) → ((line : ℕ) → IsErrOf result (Fault line) → IsFault text line)
    → (opened : List Opened) (entries : List Entry) → IsJournal (lines_of text) opened entries → length text ≤ 67108864
    → MatchResult result (λ journal. (journal.opened ≡ opened) × (journal.entries ≡ entries)) (λ failed. failed ≡ NoMemory)
all_back text (Ok journal) r faults opened entries j small =
    let s = read_is (lines_of text) opened entries r.reading j r.reads in
    (r.opened ∙ s.0, r.entries ∙ s.1.0)
all_back text (Err (Fault line)) r faults opened entries j small = absurd (no_fault text opened entries line j small (faults line refl))
all_back text (Err NoMemory) r faults opened entries j small = refl

-- two histories of the same text are what the text is read as
pub one_history : (text : List ℕ) (opened other_opened : List Opened) (entries other_entries : List Entry) → IsJournal (lines_of text) opened entries → IsJournal (lines_of text) other_opened other_entries
    → (opened ≡ other_opened) × (entries ≡ other_entries)
one_history text opened other_opened entries other_entries one other =
    let w : Whole (lines_of text) opened entries = journal_is_read (lines_of text) opened entries one in
    let same = read_is (lines_of text) other_opened other_entries w.last other w.reads in
    (sym w.opened_are ∙ same.0, sym w.entries_are ∙ same.1.0)
