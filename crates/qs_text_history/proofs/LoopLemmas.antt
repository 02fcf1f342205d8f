-- Facts about reading the lines of a text one after another.
use Rattle.std.proofs.Common.{◌≡◌, ◌<◌, ◌≤◌, inl, inr, ℕ, ◌+◌, Bool, true, false, List, [], ◌∷◌, ◌++◌, length, take, Some, None, refl, sym, ◌∙◌, ap, subst, arith, append_assoc, length-append}
use Rattle.std.specs.Prelude.{slice_get}
use Rattle.std.proofs.Math.Seq.{take-append_seam, take-append-add}
use Rattle.std.proofs.lemmas.List.Sums.{sum_by-append}
use Rattle.qs_book_script.specs.Lines.{lines_of}
use Rattle.qs_text_history.specs.Inner.Begun.{BegunValue, holder_by}
use Rattle.qs_text_history.specs.Journal.{span, IsFault}
use Rattle.qs_text_history.specs.Inner.Reader.{Knows, read_line, after_line}
use Rattle.qs_text_history.specs.Reading.{Reading, at_start, read_after, is_open, Follows, Reads}
use Rattle.qs_text_history.specs.Spelled.{Each, IsEntry}
use Rattle.qs_text_history.specs.declared.said.Said.{Said}
use Rattle.qs_text_history.specs.declared.said.Said.TheVariants.{Nodes, Node, File, Note, Item, Commit, Line}
use Rattle.qs_text_history.proofs.FollowLemmas.{follows_read, read_follows}
use Rattle.qs_text_history.proofs.HolderLemmas.{names_known}

-- ---- one line

pub follows_taken : (begun : BegunValue) (reading new : Reading) (line : List ℕ) (taken : Bool) → Knows begun reading.entries → Each IsEntry reading.entries → taken ≡ true
    → read_line (holder_by begun) reading line ≡ after_line taken new → Follows reading line new
follows_taken begun reading new line taken knows each is e =
    read_follows (holder_by begun) reading (names_known begun reading.entries knows) each line new (rw is at e)

pub none_follows : (begun : BegunValue) (reading new : Reading) (line : List ℕ) (taken : Bool) → Knows begun reading.entries → taken ≡ false
    → read_line (holder_by begun) reading line ≡ after_line taken new → (next : Reading) → Follows reading line next → ⊥
none_follows begun reading new line taken knows is e next f =
    let none : read_line (holder_by begun) reading line ≡ None = rw is at e in
    let some : read_line (holder_by begun) reading line ≡ Some next = follows_read (holder_by begun) reading (names_known begun reading.entries knows) line next f in
    cc

entries_after : (reading : Reading) (said : Said) → length (read_after reading said).entries ≤ length reading.entries + 1
entries_after reading (Nodes count) = omega arith
entries_after reading (Node number inc format) = omega arith
entries_after reading (File name content) = omega arith
entries_after reading (Note text) = omega arith
entries_after reading (Item text) = omega arith
entries_after reading (Commit tid) = omega arith
entries_after reading (Line entry) = omega (arith, length-append reading.entries (entry ∷ []))

pub entries_follow : (reading : Reading) (line : List ℕ) (next : Reading) → Follows reading line next → length next.entries ≤ length reading.entries + 1
entries_follow reading line next f = subst (λ r. length r.entries ≤ length reading.entries + 1) f.reads (entries_after reading f.said)

-- ---- places

pub front_is : (text rest line after : List ℕ) (lines : List (List ℕ)) → lines ++ lines_of rest ≡ lines_of text → take (length lines) (lines_of text) ≡ lines
front_is text rest line after lines whole = rw (← whole) (take-append_seam lines (lines_of rest))

more_is : (text rest line after : List ℕ) (lines : List (List ℕ)) → lines ++ lines_of rest ≡ lines_of text → lines_of rest ≡ line ∷ lines_of after → take (length lines + 1) (lines_of text) ≡ lines ++ line ∷ []
more_is text rest line after lines whole first = rw (← whole, first) (take-append-add lines (line ∷ lines_of after) 1)

get_at : (lines more : List (List ℕ)) (line : List ℕ) → slice_get (lines ++ line ∷ more) (length lines) ≡ Some line
get_at [] more line = refl
get_at (one ∷ lines) more line = get_at lines more line

line_there : (text rest line after : List ℕ) (lines : List (List ℕ)) → lines ++ lines_of rest ≡ lines_of text → lines_of rest ≡ line ∷ lines_of after → slice_get (lines_of text) (length lines) ≡ Some line
line_there text rest line after lines whole first = rw (← whole, first) (get_at lines (lines_of after) line)

pub whole_more : (text rest line after : List ℕ) (lines : List (List ℕ)) → lines ++ lines_of rest ≡ lines_of text → lines_of rest ≡ line ∷ lines_of after → (lines ++ line ∷ []) ++ lines_of after ≡ lines_of text
whole_more text rest line after lines whole first = append_assoc lines (line ∷ []) (lines_of after) ∙ (ap (λ xs. lines ++ xs) (sym first) ∙ whole)

pub span_more : (lines : List (List ℕ)) (line : List ℕ) → span (lines ++ line ∷ []) ≡ span lines + (length line + 1)
span_more lines line = let e : span (lines ++ line ∷ []) ≡ span lines + (0 + (length line + 1)) = sum_by-append (λ l. length l + 1) lines (line ∷ []) in omega (arith, e)

-- ---- faults

pub fault_stops : (text rest line after : List ℕ) (lines : List (List ℕ)) (before : Reading) (count number : ℕ) → lines ++ lines_of rest ≡ lines_of text → lines_of rest ≡ line ∷ lines_of after
    → Reads at_start lines before → count ≡ length lines → number ≡ count + 1 → ((next : Reading) → Follows before line next → ⊥) → IsFault text number
fault_stops text rest line after lines before count number whole first reads counted is none = record {
  at = length lines;
  number_is = is ∙ ap (λ n. n + 1) counted;
  before = before;
  reads = rw (front_is text rest line after lines whole) reads;
  why = inl (record { line = line; is = line_there text rest line after lines whole first; none = none });
}

pub fault_past : (text rest line after : List ℕ) (lines : List (List ℕ)) (before : Reading) (count number : ℕ) → lines ++ lines_of rest ≡ lines_of text → lines_of rest ≡ line ∷ lines_of after
    → Reads at_start lines before → count ≡ length lines → number ≡ count + 1
    → 67108864 + length after < length text → length text ≤ 67108864 + length rest → length rest ≤ length line + 1 + length after → span lines + length rest ≡ length text → IsFault text number
fault_past text rest line after lines before count number whole first reads counted is over used spans same = record {
  at = length lines;
  number_is = is ∙ ap (λ n. n + 1) counted;
  before = before;
  reads = rw (front_is text rest line after lines whole) reads;
  why = inr (inl (record {
    over = omega arith;
    until = rw (front_is text rest line after lines whole) (omega arith);
    past = rw (more_is text rest line after lines whole first) (omega (arith, span_more lines line));
  }));
}

pub fault_end : (text : List ℕ) (before : Reading) (count number : ℕ) → Reads at_start (lines_of text) before → count ≡ length (lines_of text) → number ≡ count + 1 → is_open before ≡ false → IsFault text number
fault_end text before count number reads counted is missing = record {
  at = length (lines_of text);
  number_is = is ∙ ap (λ n. n + 1) counted;
  before = before;
  reads = rw (all_of_them (lines_of text)) reads;
  why = inr (inr (record { at_end = refl; missing = missing }));
}
  where
    all_of_them : (lines : List (List ℕ)) → take (length lines) lines ≡ lines
    all_of_them [] = refl
    all_of_them (line ∷ lines) = ap (λ ls. line ∷ ls) (all_of_them lines)
