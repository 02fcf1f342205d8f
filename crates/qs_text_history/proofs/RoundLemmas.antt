-- The lines of a history are read.
use Rattle.std.proofs.Common.{◌≡◌, ◌<◌, ◌≤◌, ◌⊎◌, inl, inr, ℕ, ◌+◌, ◌-◌, zero, suc, true, List, [], ◌∷◌, ◌++◌, length, map, take, drop, Some, None, refl, sym, ◌∙◌, ap, subst, arith, append_assoc, length-append}
use Rattle.std.specs.Prelude.{slice_get}
use Rattle.std.proofs.lemmas.Bool.{lt-ltb}
use Rattle.std.proofs.lemmas.Bool.Decides.{nat_tests}
use Rattle.std.proofs.lemmas.List.{append-nil}
use Rattle.qs_base.specs.declared.identifiers.Tid.{Tid}
use Rattle.qs_book_journal.specs.declared.entry.Entry.{Entry}
use Rattle.qs_book_machine.specs.declared.opened.Opened.{Opened}
use Rattle.qs_ops.specs.declared.file.File.{File as FileValue}
use Rattle.qs_book_script.specs.Lines.{lines_of}
use Rattle.qs_text_history.specs.Journal.{nodes_line, file_line, note_line, item_line, commit_line, opened_lines, nodes_lines, AreRising, IsFile, IsOpened, AreLines, IsJournal, Stops, IsPast, EndsEarly, IsFault}
use Rattle.qs_text_history.specs.Reading.{Reading, at_start, opened_of, is_open, rises, read_after, Follows, Reads}
use Rattle.qs_text_history.specs.Spelled.{IsWord, IsTid, Each}
use Rattle.qs_text_history.specs.declared.said.Said.TheVariants.{Nodes, Node, File, Note, Item, Commit, Line}
use Rattle.qs_text_history.proofs.FollowLemmas.{reads_on}

reads_then : (lines more : List (List ℕ)) (first middle last : Reading) → Reads first lines middle → Reads middle more last → Reads first (lines ++ more) last
reads_then [] more first middle last r s = subst (λ x. Reads x more last) (sym r) s
reads_then (line ∷ lines) more first middle last r s = (r.0, (r.1.0, reads_then lines more r.0 middle last r.1.1 s))

-- ---- a node

-- while the part of a node is being read
abbrev at_node : ℕ → List Opened → Opened → Reading
at_node nodes done node = record { nodes = nodes; done = done; current = Some node; entries = [] }

abbrev made : ℕ → ℕ → List FileValue → List (List ℕ) → List (List ℕ) → List Tid → Opened
made inc format files audit extra committed =
    record { inc = inc; format = format; files = files; audit = audit; extra = extra; pending = []; committed = committed }

rises_more : (files rest : List FileValue) (file : FileValue) → AreRising (files ++ file ∷ rest) → rises file.name files ≡ true
rises_more [] rest file rising = refl
rises_more (one ∷ []) rest file rising = rising.0
rises_more (one ∷ next ∷ files) rest file rising =
    let p : suc (suc (length files)) - 1 ≡ suc (length files) = omega arith in
    let q : suc (length files) - 1 ≡ length files = omega arith in
    let last : rises file.name (next ∷ files) ≡ true = rises_more (next ∷ files) rest file rising.1 in
    rw p (rw q at last)

files_go : (nodes : ℕ) (done : List Opened) (inc format : ℕ) (files rest : List FileValue) → Each IsFile rest → AreRising (files ++ rest)
    → Reads (at_node nodes done (made inc format files [] [] [])) (map file_line rest) (at_node nodes done (made inc format (files ++ rest) [] [] []))
files_go nodes done inc format files [] each rising = rw (append-nil files) refl
files_go nodes done inc format files (file ∷ rest) each rising =
    let same : (files ++ file ∷ []) ++ rest ≡ files ++ file ∷ rest = append_assoc files (file ∷ []) rest in (
      at_node nodes done (made inc format (files ++ file ∷ []) [] [] []),
      (
        record { said = File file.name file.content; label = None; spelled = (each.0.name, each.0.content); named = tt; is = refl; may = rises_more files rest file rising; reads = refl },
        subst (λ fs. Reads (at_node nodes done (made inc format (files ++ file ∷ []) [] [] [])) (map file_line rest) (at_node nodes done (made inc format fs [] [] []))) same
            (files_go nodes done inc format (files ++ file ∷ []) rest each.1 (rw same rising)),
      ),
    )

notes_go : (nodes : ℕ) (done : List Opened) (inc format : ℕ) (files : List FileValue) (audit rest : List (List ℕ)) → Each IsWord rest
    → Reads (at_node nodes done (made inc format files audit [] [])) (map note_line rest) (at_node nodes done (made inc format files (audit ++ rest) [] []))
notes_go nodes done inc format files audit [] each = rw (append-nil audit) refl
notes_go nodes done inc format files audit (text ∷ rest) each =
    let same : (audit ++ text ∷ []) ++ rest ≡ audit ++ text ∷ rest = append_assoc audit (text ∷ []) rest in (
      at_node nodes done (made inc format files (audit ++ text ∷ []) [] []),
      (
        record { said = Note text; label = None; spelled = each.0; named = tt; is = refl; may = refl; reads = refl },
        subst (λ ts. Reads (at_node nodes done (made inc format files (audit ++ text ∷ []) [] [])) (map note_line rest) (at_node nodes done (made inc format files ts [] []))) same
            (notes_go nodes done inc format files (audit ++ text ∷ []) rest each.1),
      ),
    )

items_go : (nodes : ℕ) (done : List Opened) (inc format : ℕ) (files : List FileValue) (audit extra rest : List (List ℕ)) → Each IsWord rest
    → Reads (at_node nodes done (made inc format files audit extra [])) (map item_line rest) (at_node nodes done (made inc format files audit (extra ++ rest) []))
items_go nodes done inc format files audit extra [] each = rw (append-nil extra) refl
items_go nodes done inc format files audit extra (text ∷ rest) each =
    let same : (extra ++ text ∷ []) ++ rest ≡ extra ++ text ∷ rest = append_assoc extra (text ∷ []) rest in (
      at_node nodes done (made inc format files audit (extra ++ text ∷ []) []),
      (
        record { said = Item text; label = None; spelled = each.0; named = tt; is = refl; may = refl; reads = refl },
        subst (λ ts. Reads (at_node nodes done (made inc format files audit (extra ++ text ∷ []) [])) (map item_line rest) (at_node nodes done (made inc format files audit ts []))) same
            (items_go nodes done inc format files audit (extra ++ text ∷ []) rest each.1),
      ),
    )

commits_go : (nodes : ℕ) (done : List Opened) (inc format : ℕ) (files : List FileValue) (audit extra : List (List ℕ)) (committed rest : List Tid) → Each IsTid rest
    → Reads (at_node nodes done (made inc format files audit extra committed)) (map commit_line rest) (at_node nodes done (made inc format files audit extra (committed ++ rest)))
commits_go nodes done inc format files audit extra committed [] each = rw (append-nil committed) refl
commits_go nodes done inc format files audit extra committed (tid ∷ rest) each =
    let same : (committed ++ tid ∷ []) ++ rest ≡ committed ++ tid ∷ rest = append_assoc committed (tid ∷ []) rest in (
      at_node nodes done (made inc format files audit extra (committed ++ tid ∷ [])),
      (
        record { said = Commit tid; label = None; spelled = each.0; named = tt; is = refl; may = refl; reads = refl },
        subst (λ ts. Reads (at_node nodes done (made inc format files audit extra (committed ++ tid ∷ []))) (map commit_line rest) (at_node nodes done (made inc format files audit extra ts))) same
            (commits_go nodes done inc format files audit extra (committed ++ tid ∷ []) rest each.1),
      ),
    )

part_go : (nodes : ℕ) (done : List Opened) (inc format : ℕ) (files : List FileValue) (audit extra : List (List ℕ)) (committed : List Tid)
    → Each IsFile files → AreRising files → Each IsWord audit → Each IsWord extra → Each IsTid committed
    → Reads (at_node nodes done (made inc format [] [] [] [])) (map file_line files ++ (map note_line audit ++ (map item_line extra ++ map commit_line committed)))
    (at_node nodes done (made inc format files audit extra committed))
part_go nodes done inc format files audit extra committed f r a e c =
    reads_then (map file_line files) (map note_line audit ++ (map item_line extra ++ map commit_line committed)) _ (at_node nodes done (made inc format files [] [] [])) _ (files_go nodes done inc format [] files f r)
    (reads_then (map note_line audit) (map item_line extra ++ map commit_line committed) _ (at_node nodes done (made inc format files audit [] [])) _ (notes_go nodes done inc format files [] audit a)
    (reads_then (map item_line extra) (map commit_line committed) _ (at_node nodes done (made inc format files audit extra [])) _ (items_go nodes done inc format files audit [] extra e)
    (commits_go nodes done inc format files audit extra [] committed c)))

node_made : (node : Opened) → node.pending ≡ [] → made node.inc node.format node.files node.audit node.extra node.committed ≡ node
node_made node none = ap (λ ps. record node { pending = ps }) (sym none)

node_go : (reading : Reading) (node : Opened) → reading.entries ≡ [] → reading.nodes < 17 → length (opened_of reading) < reading.nodes → IsOpened node
    → Reads reading (opened_lines (length (opened_of reading)) node) (at_node reading.nodes (opened_of reading) node)
node_go reading node none small low is =
    let start : Reading = at_node reading.nodes (opened_of reading) (made node.inc node.format [] [] [] []) in
    let number = length (opened_of reading) in (
      start,
      (
        record {
          said = Node number node.inc node.format;
          label = None;
          spelled = (omega (arith, small, low), (is.inc, (is.some, is.format)));
          named = tt;
          is = refl;
          may = rw (lt-ltb number reading.nodes low) (grind (arith, nat_tests));
          reads = ap (λ es. record start { entries = es }) none;
        },
        subst (λ n. Reads start (map file_line node.files ++ (map note_line node.audit ++ (map item_line node.extra ++ map commit_line node.committed))) (at_node reading.nodes (opened_of reading) n)) (node_made node is.pending)
            (part_go reading.nodes (opened_of reading) node.inc node.format node.files node.audit node.extra node.committed is.files is.rising is.audit is.extra is.committed),
      ),
    )

-- where the parts of these nodes lead
pub record Opens (reading : Reading) (number : ℕ) (nodes : List Opened) : Type 0 where
  pub last : Reading
  pub reads : Reads reading (nodes_lines number nodes) last
  pub opened : opened_of last ≡ opened_of reading ++ nodes
  pub entries : last.entries ≡ []
  pub count : last.nodes ≡ reading.nodes

nodes_go : (nodes : List Opened) (reading : Reading) (number : ℕ) → number ≡ length (opened_of reading) → reading.entries ≡ [] → reading.nodes < 17 → length (opened_of reading) + length nodes ≤ reading.nodes → Each IsOpened nodes
    → Opens reading number nodes
nodes_go [] reading number is none small fits each = record { last = reading; reads = refl; opened = sym (append-nil (opened_of reading)); entries = none; count = refl }
nodes_go (node ∷ nodes) reading number is none small fits each =
    let next : Reading = at_node reading.nodes (opened_of reading) node in
    let one : Reads reading (opened_lines number node) next = rw is (node_go reading node none small (omega (arith, fits)) each.0) in
    let grown : length (opened_of reading ++ node ∷ []) ≡ length (opened_of reading) + 1 = length-append (opened_of reading) (node ∷ []) in
    let rest = nodes_go nodes next (number + 1) (omega (arith, is, grown)) refl small (omega (arith, grown, fits)) each.1 in
    record {
      last = rest.last;
      reads = reads_then (opened_lines number node) (nodes_lines (number + 1) nodes) reading next rest.last one rest.reads;
      opened = rest.opened ∙ append_assoc (opened_of reading) (node ∷ []) nodes;
      entries = rest.entries;
      count = rest.count;
    }

-- ---- entries

pub record Enters (reading : Reading) (lines : List (List ℕ)) (entries : List Entry) : Type 0 where
  pub last : Reading
  pub reads : Reads reading lines last
  pub opened : opened_of last ≡ opened_of reading
  pub entries_are : last.entries ≡ reading.entries ++ entries
  pub open_still : is_open last ≡ true

entries_go : (entries : List Entry) (lines : List (List ℕ)) (reading : Reading) → is_open reading ≡ true → AreLines reading.entries entries lines → Enters reading lines entries
entries_go [] lines reading is are = rw are (record { last = reading; reads = refl; opened = refl; entries_are = sym (append-nil reading.entries); open_still = is })
entries_go (entry ∷ entries) [] reading is are = absurd are
entries_go (entry ∷ entries) (line ∷ lines) reading is are =
    let next : Reading = read_after reading (Line entry) in
    let same : opened_of next ≡ opened_of reading = append-nil (opened_of reading) in
    let open_next : is_open next ≡ true = rw same is in
    let rest = entries_go entries lines next open_next are.1 in
    record {
      last = rest.last;
      reads = (next, (record { said = Line entry; label = are.0.label; spelled = are.0.spelled; named = are.0.named; is = are.0.is; may = is; reads = refl }, rest.reads));
      opened = rest.opened ∙ same;
      entries_are = rest.entries_are ∙ append_assoc reading.entries (entry ∷ []) entries;
      open_still = rest.open_still;
    }

-- ---- the whole

pub record Whole (lines : List (List ℕ)) (opened : List Opened) (entries : List Entry) : Type 0 where
  pub last : Reading
  pub reads : Reads at_start lines last
  pub opened_are : opened_of last ≡ opened
  pub entries_are : last.entries ≡ entries
  pub is_whole : is_open last ≡ true

pub journal_is_read : (lines : List (List ℕ)) (opened : List Opened) (entries : List Entry) → IsJournal lines opened entries → Whole lines opened entries
journal_is_read lines opened entries j =
    let begun : Reading = record { nodes = length opened; done = []; current = None; entries = [] } in
    let head : Follows at_start (nodes_line (length opened)) begun =
    record { said = Nodes (length opened); label = None; spelled = (j.some, j.few); named = tt; is = refl; may = refl; reads = refl } in
    let nodes = nodes_go opened begun 0 refl refl j.few (omega arith) j.each in
    let all_open : is_open nodes.last ≡ true = rw (nodes.count, nodes.opened, lt-ltb 0 (length opened) j.some) (grind (arith, nat_tests)) in
    let rest = entries_go entries j.rest nodes.last all_open (rw (nodes.entries) j.entry_lines) in
    record {
      last = rest.last;
      reads = rw (j.whole) (begun, (head, reads_then (nodes_lines 0 opened) j.rest begun nodes.last rest.last nodes.reads rest.reads));
      opened_are = rest.opened ∙ nodes.opened;
      entries_are = rest.entries_are ∙ ap (λ es. es ++ entries) nodes.entries;
      is_whole = rest.open_still;
    }

-- what was read of the lines of a history is that history
pub read_is : (lines : List (List ℕ)) (opened : List Opened) (entries : List Entry) (reading : Reading) → IsJournal lines opened entries → Reads at_start lines reading
    → (opened_of reading ≡ opened) × ((reading.entries ≡ entries) × (is_open reading ≡ true))
read_is lines opened entries reading j r =
    let w = journal_is_read lines opened entries j in
    let same : reading ≡ w.last = reads_on lines [] at_start reading w.last r (rw (append-nil lines) (w.reads)) in
    (ap opened_of same ∙ w.opened_are, (ap (λ x. x.entries) same ∙ w.entries_are, ap is_open same ∙ w.is_whole))

split_at_place : (lines : List (List ℕ)) (at : ℕ) (line : List ℕ) → slice_get lines at ≡ Some line → lines ≡ take at lines ++ line ∷ drop (suc at) lines
split_at_place [] at line e = cc
split_at_place (one ∷ lines) zero line e = let same : one ≡ line = cc in ap (λ x. x ∷ lines) same
split_at_place (one ∷ lines) (suc at) line e = ap (λ xs. one ∷ xs) (split_at_place lines at line e)

take_whole : (lines : List (List ℕ)) → take (length lines) lines ≡ lines
take_whole [] = refl
take_whole (line ∷ lines) = ap (λ ls. line ∷ ls) (take_whole lines)

-- the text of a history within the limit has no fault
pub no_fault : (text : List ℕ) (opened : List Opened) (entries : List Entry) (number : ℕ) → IsJournal (lines_of text) opened entries → length text ≤ 67108864 → IsFault text number → ⊥
no_fault text opened entries number j small f = by f.why
  where
    whole : Whole (lines_of text) opened entries
    whole = journal_is_read (lines_of text) opened entries j

    stops : Stops f.before (lines_of text) f.at → ⊥
    stops s =
        let cut : lines_of text ≡ take f.at (lines_of text) ++ s.line ∷ drop (suc f.at) (lines_of text) = split_at_place (lines_of text) f.at s.line s.is in
        let r : Reads f.before (s.line ∷ drop (suc f.at) (lines_of text)) whole.last =
        reads_on (take f.at (lines_of text)) (s.line ∷ drop (suc f.at) (lines_of text)) at_start f.before whole.last f.reads (subst (λ ls. Reads at_start ls whole.last) cut whole.reads) in
        s.none r.0 r.1.0

    early : EndsEarly f.before (lines_of text) f.at → ⊥
    early e =
        let all : take f.at (lines_of text) ≡ lines_of text = ap (λ n. take n (lines_of text)) e.at_end ∙ take_whole (lines_of text) in
        let r : Reads at_start (lines_of text) f.before = subst (λ ls. Reads at_start ls f.before) all f.reads in
        let w = (read_is (lines_of text) opened entries f.before j r).1.1 in
        let m = e.missing in
        cc

    by : Stops f.before (lines_of text) f.at ⊎ (IsPast text f.at ⊎ EndsEarly f.before (lines_of text) f.at) → ⊥
    by (inl s) = stops s
    by (inr (inl p)) = absurd (omega (arith, p.over, small))
    by (inr (inr e)) = early e
