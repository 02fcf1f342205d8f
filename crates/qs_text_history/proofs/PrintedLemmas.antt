-- The lines that were read are those of what was read.
use Rattle.std.proofs.Common.{◌≡◌, ◌<◌, ◌≤◌, ◌⊎◌, inl, inr, ℕ, ◌+◌, ◌-◌, ◌==◌, zero, suc, true, List, [], ◌∷◌, ◌++◌, length, map, Option, Some, None, refl, sym, ◌∙◌, ap, subst, arith, append_assoc, length-append}
use Rattle.std.specs.Prelude.{nat_lt, slice_get}
use Rattle.std.proofs.lemmas.Bool.{ltb-true}
use Rattle.std.proofs.lemmas.Bool.Decides.{nat_tests}
use Rattle.std.proofs.lemmas.List.{append-nil, nil_from_length, map-append}
use Rattle.qs_base.specs.declared.identifiers.Tid.{Tid}
use Rattle.qs_book_journal.specs.declared.entry.Entry.{Entry}
use Rattle.qs_book_machine.specs.declared.opened.Opened.{Opened}
use Rattle.qs_ops.specs.declared.file.File.{File as FileValue}
use Rattle.qs_text_script.specs.Journal.{entry_line}
use Rattle.qs_text_history.specs.Journal.{nodes_line, node_line, file_line, note_line, item_line, commit_line, opened_lines, nodes_lines, AreRising, IsFile, IsOpened, IsLine, AreLines, IsJournal}
use Rattle.qs_text_history.specs.Reading.{Reading, at_start, opened_of, is_open, rises, may_go_on, current_may, may_follow, opening, gone_on, current_after, read_after, IsNamed, Follows, Reads}
use Rattle.qs_text_history.specs.Said.{IsSaid, said_line}
use Rattle.qs_text_history.specs.Spelled.{IsWord, IsTid, Each}
use Rattle.qs_text_history.specs.declared.said.Said.{Said}
use Rattle.qs_text_history.specs.declared.said.Said.TheVariants.{Nodes, Node, File, Note, Item, Commit, Line}
use Rattle.qs_text_history.proofs.MarkLemmas.{both}

-- ---- lists

pub each_end : {A : Type 0} (P : A → Type 0) (xs : List A) (x : A) → Each P xs → P x → Each P (xs ++ x ∷ [])
each_end P [] x each is = (is, tt)
each_end P (y ∷ xs) x each is = (each.0, each_end P xs x each.1 is)

each_front : {A : Type 0} (P : A → Type 0) (xs : List A) (x : A) → Each P (xs ++ x ∷ []) → Each P xs × P x
each_front P [] x each = (tt, each.0)
each_front P (y ∷ xs) x each = let r = each_front P xs x each.1 in ((each.0, r.0), r.1)

last_get : (files : List FileValue) (file : FileValue) → slice_get (files ++ file ∷ []) (length files) ≡ Some file
last_get [] file = refl
last_get (one ∷ files) file = last_get files file

empty : {A : Type 0} (xs : List A) → (length xs == 0) ≡ true → xs ≡ []
empty xs e = let none : length xs ≡ 0 = grind (arith, nat_tests) in nil_from_length xs none

-- one more file with a name above the last keeps the order
rising_more : (files : List FileValue) (file : FileValue) → AreRising files → rises file.name files ≡ true → AreRising (files ++ file ∷ [])
rising_more [] file rising above = tt
rising_more (one ∷ []) file rising above = (above, tt)
rising_more (one ∷ next ∷ files) file rising above =
    let p : suc (suc (length files)) - 1 ≡ suc (length files) = omega arith in
    let q : suc (length files) - 1 ≡ length files = omega arith in
    let last : rises file.name (next ∷ files) ≡ true = rw q (rw p at above) in
    (rising.0, rising_more (next ∷ files) file rising.1 last)

-- ---- entries

are_more : (before entries : List Entry) (lines : List (List ℕ)) (entry : Entry) (line : List ℕ) → AreLines before entries lines → IsLine (before ++ entries) entry line
    → AreLines before (entries ++ entry ∷ []) (lines ++ line ∷ [])
are_more before [] lines entry line are is = rw are (subst (λ es. IsLine es entry line) (append-nil before) is, refl)
are_more before (first ∷ entries) [] entry line are is = absurd are
are_more before (first ∷ entries) (one ∷ lines) entry line are is =
    (are.0, are_more (before ++ first ∷ []) entries lines entry line are.1 (subst (λ es. IsLine es entry line) (sym (append_assoc before (first ∷ []) entries)) is))

-- ---- nodes

nodes_end : (number : ℕ) (nodes : List Opened) (node : Opened) → nodes_lines number (nodes ++ node ∷ []) ≡ nodes_lines number nodes ++ opened_lines (number + length nodes) node
nodes_end number [] node = let e : number ≡ number + 0 = omega arith in append-nil (opened_lines number node) ∙ ap (λ n. opened_lines n node) e
nodes_end number (first ∷ nodes) node =
    let e : number + 1 + length nodes ≡ number + suc (length nodes) = omega arith in
    ap (λ ls. opened_lines number first ++ ls) (nodes_end (number + 1) nodes node ∙ ap (λ n. nodes_lines (number + 1) nodes ++ opened_lines n node) e)
    ∙ sym (append_assoc (opened_lines number first) (nodes_lines (number + 1) nodes) (opened_lines (number + suc (length nodes)) node))

goes_on : (number : ℕ) (node : Opened) (said : Said) (label : Option (List ℕ)) → may_go_on node said ≡ true → IsOpened node → IsSaid said
    → IsOpened (gone_on node said) × (opened_lines number (gone_on node said) ≡ opened_lines number node ++ said_line label said ∷ [])
goes_on number node (File name content) label may is said =
    let a = both (length node.audit == 0) _ may in
    let b = both (length node.extra == 0) _ a.1 in
    let c = both (length node.committed == 0) (rises name node.files) b.1 in
    let audit : node.audit ≡ [] = empty node.audit a.0 in
    let extra : node.extra ≡ [] = empty node.extra b.0 in
    let committed : node.committed ≡ [] = empty node.committed c.0 in
    let file : FileValue = record { name = name; content = content } in (
      record {
        inc = is.inc;
        some = is.some;
        format = is.format;
        files = each_end IsFile node.files file is.files (record { name = said.0; content = said.1 });
        rising = rising_more node.files file is.rising c.1;
        audit = is.audit;
        extra = is.extra;
        committed = is.committed;
        pending = is.pending;
      },
      lines node.files node.audit node.extra node.committed file audit extra committed,
    )
  where
    lines : (files : List FileValue) (notes items : List (List ℕ)) (commits : List Tid) (file : FileValue) → notes ≡ [] → items ≡ [] → commits ≡ []
        → node_line number node.inc node.format ∷ (map file_line (files ++ file ∷ []) ++ (map note_line notes ++ (map item_line items ++ map commit_line commits)))
        ≡ (node_line number node.inc node.format ∷ (map file_line files ++ (map note_line notes ++ (map item_line items ++ map commit_line commits)))) ++ file_line file ∷ []
    lines files notes items commits file n i c = rw (n, i, c, append-nil (map file_line (files ++ file ∷ [])), append-nil (map file_line files), map-append file_line files (file ∷ [])) refl
goes_on number node (Note text) label may is said =
    let a = both (length node.extra == 0) (length node.committed == 0) may in (
      record {
        inc = is.inc;
        some = is.some;
        format = is.format;
        files = is.files;
        rising = is.rising;
        audit = each_end IsWord node.audit text is.audit said;
        extra = is.extra;
        committed = is.committed;
        pending = is.pending;
      },
      lines node.files node.audit node.extra node.committed (empty node.extra a.0) (empty node.committed a.1),
    )
  where
    lines : (files : List FileValue) (notes items : List (List ℕ)) (commits : List Tid) → items ≡ [] → commits ≡ []
        → node_line number node.inc node.format ∷ (map file_line files ++ (map note_line (notes ++ text ∷ []) ++ (map item_line items ++ map commit_line commits)))
        ≡ (node_line number node.inc node.format ∷ (map file_line files ++ (map note_line notes ++ (map item_line items ++ map commit_line commits)))) ++ note_line text ∷ []
    lines files notes items commits i c =
        rw (i, c, append-nil (map note_line (notes ++ text ∷ [])), append-nil (map note_line notes), map-append note_line notes (text ∷ []))
        (ap (λ ls. node_line number node.inc node.format ∷ ls) (sym (append_assoc (map file_line files) (map note_line notes) (note_line text ∷ []))))
goes_on number node (Item text) label may is said = (
  record {
    inc = is.inc;
    some = is.some;
    format = is.format;
    files = is.files;
    rising = is.rising;
    audit = is.audit;
    extra = each_end IsWord node.extra text is.extra said;
    committed = is.committed;
    pending = is.pending;
  },
  lines node.files node.audit node.extra node.committed (empty node.committed may),
)
  where
    lines : (files : List FileValue) (notes items : List (List ℕ)) (commits : List Tid) → commits ≡ []
        → node_line number node.inc node.format ∷ (map file_line files ++ (map note_line notes ++ (map item_line (items ++ text ∷ []) ++ map commit_line commits)))
        ≡ (node_line number node.inc node.format ∷ (map file_line files ++ (map note_line notes ++ (map item_line items ++ map commit_line commits)))) ++ item_line text ∷ []
    lines files notes items commits c =
        rw (c, append-nil (map item_line (items ++ text ∷ [])), append-nil (map item_line items), map-append item_line items (text ∷ []))
        (ap (λ ls. node_line number node.inc node.format ∷ ls)
        (ap (λ ls. map file_line files ++ ls) (sym (append_assoc (map note_line notes) (map item_line items) (item_line text ∷ [])))
        ∙ sym (append_assoc (map file_line files) (map note_line notes ++ map item_line items) (item_line text ∷ []))))
goes_on number node (Commit tid) label may is said = (
  record {
    inc = is.inc;
    some = is.some;
    format = is.format;
    files = is.files;
    rising = is.rising;
    audit = is.audit;
    extra = is.extra;
    committed = each_end IsTid node.committed tid is.committed said;
    pending = is.pending;
  },
  lines node.files node.audit node.extra node.committed,
)
  where
    lines : (files : List FileValue) (notes items : List (List ℕ)) (commits : List Tid)
        → node_line number node.inc node.format ∷ (map file_line files ++ (map note_line notes ++ (map item_line items ++ map commit_line (commits ++ tid ∷ []))))
        ≡ (node_line number node.inc node.format ∷ (map file_line files ++ (map note_line notes ++ (map item_line items ++ map commit_line commits)))) ++ commit_line tid ∷ []
    lines files notes items commits =
        rw (map-append commit_line commits (tid ∷ []))
        (ap (λ ls. node_line number node.inc node.format ∷ ls)
        (ap (λ ls. map file_line files ++ ls)
        (ap (λ ls. map note_line notes ++ ls) (sym (append_assoc (map item_line items) (map commit_line commits) (commit_line tid ∷ [])))
        ∙ sym (append_assoc (map note_line notes) (map item_line items ++ map commit_line commits) (commit_line tid ∷ [])))
        ∙ sym (append_assoc (map file_line files) (map note_line notes ++ (map item_line items ++ map commit_line commits)) (commit_line tid ∷ []))))
goes_on number node (Nodes count) label may is said = cc
goes_on number node (Node k inc format) label may is said = cc
goes_on number node (Line entry) label may is said = cc

-- ---- readings

abbrev heading : ℕ → List (List ℕ)
heading zero = []
heading (suc n) = nodes_line (suc n) ∷ []

-- the lines are those of what was read
pub record Printed (reading : Reading) (lines : List (List ℕ)) : Type 0 where
  pub small : reading.nodes < 17
  pub fits : length (opened_of reading) ≤ reading.nodes
  pub each : Each IsOpened (opened_of reading)
  pub rest : List (List ℕ)
  pub whole : lines ≡ heading reading.nodes ++ (nodes_lines 0 (opened_of reading) ++ rest)
  pub entry_lines : AreLines [] reading.entries rest
  pub quiet : (rest ≡ []) ⊎ ((0 < reading.nodes) × ((reading.current ≡ None) × (length (opened_of reading) ≡ reading.nodes)))

printed_start : Printed at_start []
printed_start = record { small = omega arith; fits = omega arith; each = tt; rest = []; whole = refl; entry_lines = refl; quiet = inl refl }

-- ---- one more line

head_is : (nodes : ℕ) → 0 < nodes → heading nodes ≡ nodes_line nodes ∷ []
head_is zero h = absurd (omega arith)
head_is (suc n) h = refl

nodes_step : (reading : Reading) (lines : List (List ℕ)) (count : ℕ) → Printed reading lines → (0 < count) × (count < 17) → reading.nodes ≡ 0 → Printed (read_after reading (Nodes count)) (lines ++ nodes_line count ∷ [])
nodes_step reading lines count p said zero_nodes =
    let none : opened_of reading ≡ [] = nil_from_length (opened_of reading) (omega (arith, p.fits)) in
    let quiet : p.rest ≡ [] = by p.quiet in
    let was : lines ≡ [] = p.whole ∙ (rw (zero_nodes, none, quiet) refl) in
    record {
      small = said.1;
      fits = omega (arith, p.fits);
      each = p.each;
      rest = p.rest;
      whole = rw (was, none, quiet, head_is count said.0) refl;
      entry_lines = p.entry_lines;
      quiet = inl quiet;
    }
  where
    by : (p.rest ≡ []) ⊎ ((0 < reading.nodes) × ((reading.current ≡ None) × (length (opened_of reading) ≡ reading.nodes))) → p.rest ≡ []
    by (inl q) = q
    by (inr q) = absurd (omega (arith, q.0, zero_nodes))

-- while a node or its part may follow, there are no entries
still_quiet : (reading : Reading) (rest : List (List ℕ)) → ((0 < reading.nodes) × ((reading.current ≡ None) × (length (opened_of reading) ≡ reading.nodes)) → ⊥)
    → (rest ≡ []) ⊎ ((0 < reading.nodes) × ((reading.current ≡ None) × (length (opened_of reading) ≡ reading.nodes))) → rest ≡ []
still_quiet reading rest not (inl q) = q
still_quiet reading rest not (inr q) = absurd (not q)

end_append : (h : List (List ℕ)) (xs : List (List ℕ)) (ys : List (List ℕ)) → (h ++ (xs ++ [])) ++ ys ≡ h ++ ((xs ++ ys) ++ [])
end_append h xs ys = rw (append-nil xs, append-nil (xs ++ ys)) (append_assoc h xs ys)

node_step : (reading : Reading) (lines : List (List ℕ)) (number inc format : ℕ) → Printed reading lines → IsSaid (Node number inc format) → number < reading.nodes → number ≡ length (opened_of reading)
    → Printed (read_after reading (Node number inc format)) (lines ++ node_line number inc format ∷ [])
node_step reading lines number inc format p said low is =
    let quiet : p.rest ≡ [] = still_quiet reading p.rest (λ q. absurd (omega (arith, q.1.1, low, is))) p.quiet in
    let was : lines ≡ heading reading.nodes ++ (nodes_lines 0 (opened_of reading) ++ []) = p.whole ∙ ap (λ r. heading reading.nodes ++ (nodes_lines 0 (opened_of reading) ++ r)) quiet in
    let printed : nodes_lines 0 (opened_of reading ++ opening inc format ∷ []) ≡ nodes_lines 0 (opened_of reading) ++ node_line number inc format ∷ [] =
    nodes_end 0 (opened_of reading) (opening inc format) ∙ ap (λ n. nodes_lines 0 (opened_of reading) ++ node_line n inc format ∷ []) (let e : 0 + length (opened_of reading) ≡ number = omega (arith, is) in e) in
    record {
      small = p.small;
      fits = omega (arith, length-append (opened_of reading) (opening inc format ∷ []), low, is);
      each = each_end IsOpened (opened_of reading) (opening inc format) p.each
          (record { inc = said.1.0; some = said.1.1.0; format = said.1.1.1; files = tt; rising = tt; audit = tt; extra = tt; committed = tt; pending = refl });
      rest = [];
      whole = ap (λ ls. ls ++ node_line number inc format ∷ []) was ∙ (end_append (heading reading.nodes) (nodes_lines 0 (opened_of reading)) (node_line number inc format ∷ [])
          ∙ ap (λ ls. heading reading.nodes ++ (ls ++ [])) (sym printed));
      entry_lines = subst (λ r. AreLines [] reading.entries r) quiet p.entry_lines;
      quiet = inl refl;
    }

-- with the current node going on
on_step : (nodes : ℕ) (done : List Opened) (node : Opened) (entries : List Entry) (lines : List (List ℕ)) (said : Said) (label : Option (List ℕ))
    → Printed (record { nodes = nodes; done = done; current = Some node; entries = entries }) lines → IsSaid said → may_go_on node said ≡ true
    → Printed (record { nodes = nodes; done = done; current = Some (gone_on node said); entries = entries }) (lines ++ said_line label said ∷ [])
on_step nodes done node entries lines said label p is may =
    let reading : Reading = record { nodes = nodes; done = done; current = Some node; entries = entries } in
    let quiet : p.rest ≡ [] = still_quiet reading p.rest (λ q. cc (q.1.0)) p.quiet in
    let was : lines ≡ heading nodes ++ (nodes_lines 0 (done ++ node ∷ []) ++ []) = p.whole ∙ ap (λ r. heading nodes ++ (nodes_lines 0 (done ++ node ∷ []) ++ r)) quiet in
    let split = each_front IsOpened done node p.each in
    let g = goes_on (0 + length done) node said label may split.1 is in
    let printed : nodes_lines 0 (done ++ gone_on node said ∷ []) ≡ nodes_lines 0 (done ++ node ∷ []) ++ said_line label said ∷ [] =
    nodes_end 0 done (gone_on node said) ∙ (ap (λ ls. nodes_lines 0 done ++ ls) g.1 ∙ (sym (append_assoc (nodes_lines 0 done) (opened_lines (0 + length done) node) (said_line label said ∷ []))
    ∙ ap (λ ls. ls ++ said_line label said ∷ []) (sym (nodes_end 0 done node)))) in
    record {
      small = p.small;
      fits = omega (arith, p.fits, length-append done (node ∷ []), length-append done (gone_on node said ∷ []));
      each = each_end IsOpened done (gone_on node said) split.0 g.0;
      rest = [];
      whole = ap (λ ls. ls ++ said_line label said ∷ []) was ∙ (end_append (heading nodes) (nodes_lines 0 (done ++ node ∷ [])) (said_line label said ∷ [])
          ∙ ap (λ ls. heading nodes ++ (ls ++ [])) (sym printed));
      entry_lines = subst (λ r. AreLines [] entries r) quiet p.entry_lines;
      quiet = inl refl;
    }

line_step : (reading : Reading) (lines : List (List ℕ)) (entry : Entry) (line : List ℕ) → Printed reading lines → IsLine reading.entries entry line → 0 < reading.nodes → length (opened_of reading) ≡ reading.nodes
    → Printed (read_after reading (Line entry)) (lines ++ line ∷ [])
line_step reading lines entry line p is some all =
    let same : opened_of reading ++ [] ≡ opened_of reading = append-nil (opened_of reading) in
    record {
      small = p.small;
      fits = rw same p.fits;
      each = rw same p.each;
      rest = p.rest ++ line ∷ [];
      whole = ap (λ ls. ls ++ line ∷ []) p.whole ∙ (rw same (append_assoc (heading reading.nodes) (nodes_lines 0 (opened_of reading) ++ p.rest) (line ∷ [])
          ∙ ap (λ ls. heading reading.nodes ++ ls) (append_assoc (nodes_lines 0 (opened_of reading)) p.rest (line ∷ []))));
      entry_lines = are_more [] reading.entries p.rest entry line p.entry_lines is;
      quiet = inr (some, (refl, rw same all));
    }

open_parts : (reading : Reading) → is_open reading ≡ true → (0 < reading.nodes) × (length (opened_of reading) ≡ reading.nodes)
open_parts reading e = let b = both (nat_lt 0 reading.nodes) (length (opened_of reading) == reading.nodes) e in (ltb-true 0 reading.nodes b.0, grind (arith, nat_tests))

going : (nodes : ℕ) (done : List Opened) (current : Option Opened) (entries : List Entry) (lines : List (List ℕ)) (said : Said) (label : Option (List ℕ))
    → Printed (record { nodes = nodes; done = done; current = current; entries = entries }) lines → IsSaid said → current_may current said ≡ true
    → Printed (record { nodes = nodes; done = done; current = current_after current said; entries = entries }) (lines ++ said_line label said ∷ [])
going nodes done None entries lines said label p is may = cc
going nodes done (Some node) entries lines said label p is may = on_step nodes done node entries lines said label p is may

printed_after : (reading : Reading) (lines : List (List ℕ)) (said : Said) (label : Option (List ℕ)) → Printed reading lines → IsSaid said → IsNamed reading.entries label said → may_follow reading said ≡ true
    → Printed (read_after reading said) (lines ++ said_line label said ∷ [])
printed_after reading lines (Nodes count) label p is named may = nodes_step reading lines count p is (grind (arith, nat_tests))
printed_after reading lines (Node number inc format) label p is named may =
    let b = both (nat_lt number reading.nodes) (number == length (opened_of reading)) may in
    node_step reading lines number inc format p is (ltb-true number reading.nodes b.0) (grind (arith, nat_tests))
printed_after reading lines (File name content) label p is named may = going reading.nodes reading.done reading.current reading.entries lines (File name content) label p is may
printed_after reading lines (Note text) label p is named may = going reading.nodes reading.done reading.current reading.entries lines (Note text) label p is may
printed_after reading lines (Item text) label p is named may = going reading.nodes reading.done reading.current reading.entries lines (Item text) label p is may
printed_after reading lines (Commit tid) label p is named may = going reading.nodes reading.done reading.current reading.entries lines (Commit tid) label p is may
printed_after reading lines (Line entry) label p is named may =
    let o = open_parts reading may in
    line_step reading lines entry (entry_line (λ tid. label) entry) p (record { label = label; spelled = is; named = named; is = refl }) o.0 o.1

printed_next : (reading next : Reading) (lines : List (List ℕ)) (line : List ℕ) → Printed reading lines → Follows reading line next → Printed next (lines ++ line ∷ [])
printed_next reading next lines line p f =
    rw (f.is) (subst (λ r. Printed r (lines ++ said_line f.label f.said ∷ [])) f.reads (printed_after reading lines f.said f.label p f.spelled f.named f.may))

printed_on : (reading last : Reading) (before lines : List (List ℕ)) → Printed reading before → Reads reading lines last → Printed last (before ++ lines)
printed_on reading last before [] p r = rw (append-nil before) (subst (λ x. Printed x before) r p)
printed_on reading last before (line ∷ lines) p r =
    subst (Printed last) (append_assoc before (line ∷ []) lines) (printed_on r.0 last (before ++ line ∷ []) lines (printed_next reading r.0 before line p r.1.0) r.1.1)

-- lines that were read to the end of an opening at least are those of a history
pub read_is_journal : (lines : List (List ℕ)) (reading : Reading) → Reads at_start lines reading → is_open reading ≡ true → IsJournal lines (opened_of reading) reading.entries
read_is_journal lines reading r open_now =
    let p = printed_on at_start reading [] lines printed_start r in
    let o = open_parts reading open_now in
    record {
      some = omega (arith, o.0, o.1);
      few = omega (arith, p.small, o.1);
      each = p.each;
      rest = p.rest;
      whole = p.whole ∙ (rw (head_is reading.nodes o.0, o.1) refl);
      entry_lines = p.entry_lines;
    }
