-- What a step does to the committed files and notes of a node: nothing, or what learning commit applies.
use Rattle.qs_book_laws.proofs.Words.{◌≡◌, ◌⊎◌, ℕ, [], ◌∷◌, ◌==◌, Bool, true, false, List, Option, Some, None, fold, inl, inr, refl, sym, ap, subst, ◌∙◌, arith, if◌then◌else◌, nat_tests, slice_get, is_some, All, append-nil, OnRecord, Voter, lookup, remove_entry, option_map, is_at, Tid, TableValue, committed, share_of, apply_change, apply_note, BookValue, learn_node, doubts_after, changed_at, NodeValue, with_table, pending_at, voter, voter_cmp, IsCommitted, TakesCommitted, LeavesCommitted}
use Rattle.std.proofs.lemmas.List.Elements.{All-cons, All-nil}
use Rattle.qs_base.specs.declared.identifiers.Outcome.TheVariants as outcomes
use Rattle.qs_book_laws.specs.Laws.{Given, IsGiven}
use Rattle.qs_book_laws.proofs.Faces.{either_way}
use Rattle.qs_book_laws.proofs.Maps.{changed_at_either}
use Rattle.qs_book_laws.proofs.Shut.{Changes, remove_changes}
use Rattle.qs_book_laws.proofs.StillActs.{doubts_facet}
use Rattle.qs_book_laws.proofs.Stills.{Facet, facet, Still}

-- ---- nothing

pub leaves_facet : (was at : NodeValue) → facet at ≡ facet was → LeavesCommitted was at
leaves_facet was at same = record { contents = ap (λ (f : Facet). f.files) same; notes = ap (λ (f : Facet). f.notes) same }

pub takes_none : (book : BookValue) (was at : NodeValue) → LeavesCommitted was at → TakesCommitted book was at
takes_none book was at leaves = record {
  files = [];
  audit = [];
  files_given = All-nil (IsGiven was 0 book);
  audit_given = All-nil (IsGiven was 1 book);
  contents = leaves.contents;
  notes = leaves.notes;
}

pub some_of : {A : Type 0} (o : Option A) → is_some o ≡ true → (x : A) × (o ≡ Some x)
some_of None h = absurd (cc h)
some_of (Some x) h = (x, refl)

pub some_same : {A : Type 0} (x y : A) → Some x ≡ Some y → x ≡ y
some_same x y e = cc

pub leaves_still : (old new : BookValue) → Still old new → (n : ℕ) (was at : NodeValue) → slice_get old.nodes n ≡ Some was → slice_get new.nodes n ≡ Some at → LeavesCommitted was at
leaves_still old new still n was at was_is at_is =
    leaves_facet was at (some_same (facet at) (facet was) (ap (option_map facet) (sym at_is) ∙ (still.facets n ∙ ap (option_map facet) was_is)))

-- what is committed in one book is so in the other
pub takes_over : (book last : BookValue) (was at : NodeValue) → ((tid : Tid) → IsCommitted book tid → IsCommitted last tid) → TakesCommitted book was at → TakesCommitted last was at
takes_over book last was at over t = record {
  files = t.files;
  audit = t.audit;
  files_given = λ k d below. given 0 (t.files_given k d below);
  audit_given = λ k d below. given 1 (t.audit_given k d below);
  contents = t.contents;
  notes = t.notes;
}
  where
    given : (server : ℕ) {g : Given} → IsGiven was server book g → IsGiven was server last g
    given server {g} h = record { held = h.held; committed = over g.tid h.committed }

-- ---- one node

-- where only one node changed
pub at_node : (here : ℕ) (f : NodeValue → NodeValue) (book : BookValue) (node : NodeValue) (P : NodeValue → NodeValue → Type 0) → slice_get book.nodes here ≡ Some node → P node (f node) → ((v : NodeValue) → P v v)
    → (n : ℕ) (was at : NodeValue) → slice_get book.nodes n ≡ Some was → slice_get (changed_at here f book.nodes) n ≡ Some at → P was at
at_node here f book node P at_here changed same n was at was_is at_is = by (changed_at_either f book.nodes here n node at_here)
  where
    by : ((n ≡ here) × (slice_get book.nodes n ≡ Some node) × (slice_get (changed_at here f book.nodes) n ≡ Some (f node))) ⊎ (slice_get (changed_at here f book.nodes) n ≡ slice_get book.nodes n) → P was at
    by (inl h) =
        let first : node ≡ was = some_same node was (sym h.1 ∙ was_is) in
        let last : f node ≡ at = some_same (f node) at (sym h.2 ∙ at_is) in
        subst (λ (v : NodeValue). P v at) first (subst (λ (v : NodeValue). P node v) last changed)
    by (inr h) =
        let last : was ≡ at = some_same was at (sym was_is ∙ (sym h ∙ at_is)) in
        subst (λ (v : NodeValue). P was v) last (same was)

-- ---- a table

abbrev pub TableCases : ℕ → (TableValue → TableValue) → NodeValue → NodeValue → Type 0
TableCases server f node at =
    ((server ≡ 0) × (facet at ≡ record (facet node) { files = (f node.files).contents; file_notes = (f node.files).notes }))
    ⊎ (((server ≡ 1) × (facet at ≡ record (facet node) { audit_files = (f node.audit).contents; notes = (f node.audit).notes })) ⊎ (facet at ≡ facet node))

table_cases : (server : ℕ) (f : TableValue → TableValue) (node : NodeValue) → TableCases server f node (with_table server f node)
table_cases server f node = at (server == 0) (server == 1) refl refl
  where
    rest : NodeValue
    rest =
        if server == 2 then record node { names = f node.names }
        else if server == 4 then record node { windows = f node.windows }
        else if server == 5 then record node { scratch = f node.scratch }
        else node

    rest_same : facet rest ≡ facet node
    rest_same =
        either_way facet (server == 2) _ _ _ refl
        (either_way facet (server == 4) _ _ _ refl
        (either_way facet (server == 5) _ _ _ refl refl))

    at : (a b : Bool) → (server == 0) ≡ a → (server == 1) ≡ b
        → TableCases server f node (if a then record node { files = f node.files } else if b then record node { audit = f node.audit } else rest)
    at true b is other = inl (grind (arith, nat_tests), refl)
    at false true is other = inr (inl (grind (arith, nat_tests), refl))
    at false false is other = inr (inr rest_same)

-- ---- learning commit

module _ (book : BookValue) (node : NodeValue) (tid : Tid) (is : IsCommitted book tid) where
  abbrev learning : ℕ → NodeValue → NodeValue
  learning server v = doubts_after tid server (learn_node outcomes.Commit tid server v)

  abbrev taken : ℕ → NodeValue
  taken server = with_table server (λ table. committed table tid) node

  -- all but what is on record, as the table has it
  learning_facet : (server : ℕ) → facet (learning server node) ≡ record (facet (taken server)) { records = remove_entry (is_at (voter_cmp (voter tid server))) (taken server).records }
  learning_facet server = doubts_facet tid server (learn_node outcomes.Commit tid server node)

  abbrev given_by : ℕ → Given
  given_by server = record { tid = tid; changes = pending_at node tid server }

  is_given : (server : ℕ) → All (IsGiven node server book) (given_by server ∷ [])
  is_given server = All-cons (IsGiven node server book) (given_by server) [] (record { held = inl refl; committed = is }) (All-nil (IsGiven node server book))

  learns_takes : (server : ℕ) (last : NodeValue) → facet last ≡ record (facet (taken server)) { records = remove_entry (is_at (voter_cmp (voter tid server))) (taken server).records }
      → TableCases server (λ table. committed table tid) node (taken server) → TakesCommitted book node last
  learns_takes server last same (inl h) = record {
    files = given_by 0 ∷ [];
    audit = [];
    files_given = is_given 0;
    audit_given = All-nil (IsGiven node 1 book);
    contents = ap (λ (f : Facet). f.files) same ∙ (ap (λ (f : Facet). f.files) h.1 ∙ ap (fold apply_change node.files.contents) (sym (append-nil (share_of node.files tid).changes)));
    notes = ap (λ (f : Facet). f.notes) same ∙ ap (λ (f : Facet). f.notes) h.1;
  }
  learns_takes server last same (inr (inl h)) = record {
    files = [];
    audit = given_by 1 ∷ [];
    files_given = All-nil (IsGiven node 0 book);
    audit_given = is_given 1;
    contents = ap (λ (f : Facet). f.files) same ∙ ap (λ (f : Facet). f.files) h.1;
    notes = ap (λ (f : Facet). f.notes) same ∙ (ap (λ (f : Facet). f.notes) h.1 ∙ ap (fold apply_note node.audit.notes) (sym (append-nil (share_of node.audit tid).changes)));
  }
  learns_takes server last same (inr (inr h)) =
      takes_none book node last (record {
        contents = ap (λ (f : Facet). f.files) same ∙ ap (λ (f : Facet). f.files) h;
        notes = ap (λ (f : Facet). f.notes) same ∙ ap (λ (f : Facet). f.notes) h;
      })

  pub learn_takes : (server : ℕ) → TakesCommitted book node (doubts_after tid server (learn_node outcomes.Commit tid server node))
  learn_takes server = learns_takes server (learning server node) (learning_facet server) (table_cases server (λ table. committed table tid) node)

table_keeps : (server : ℕ) (f : TableValue → TableValue) (node last : NodeValue) → TableCases server f node last → (last.records ≡ node.records) × (last.committed ≡ node.committed)
table_keeps server f node last (inl h) = (ap (λ (a : Facet). a.records) h.1, ap (λ (a : Facet). a.committed) h.1)
table_keeps server f node last (inr (inl h)) = (ap (λ (a : Facet). a.records) h.1, ap (λ (a : Facet). a.committed) h.1)
table_keeps server f node last (inr (inr h)) = (ap (λ (a : Facet). a.records) h, ap (λ (a : Facet). a.committed) h)

pub learn_changes : (book : BookValue) (node : NodeValue) (tid : Tid) (server : ℕ) → Changes book (facet node) (facet (doubts_after tid server (learn_node outcomes.Commit tid server node)))
learn_changes book node tid server =
    subst (λ (f : Facet). Changes book (facet node) f) (sym (doubts_facet tid server (learn_node outcomes.Commit tid server node)))
    (remove_changes book (facet node) (facet last) (is_at (voter_cmp (voter tid server))) changed)
  where
    last : NodeValue
    last = with_table server (λ table. committed table tid) node

    keeps : (last.records ≡ node.records) × (last.committed ≡ node.committed)
    keeps = table_keeps server (λ table. committed table tid) node last (table_cases server (λ table. committed table tid) node)

    changed : Changes book (facet node) (facet last)
    changed = record {
      committed = keeps.1;
      records = λ q s k. ap (λ (es : List (Voter × OnRecord)). lookup (is_at (voter_cmp (voter q k))) es) keeps.0 ∙ s.records k;
    }
