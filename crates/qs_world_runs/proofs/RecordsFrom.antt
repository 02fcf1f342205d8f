-- What is on record at a node after a step of its was so before it, or a vote of the step put it there.
use Rattle.qs_world_runs.proofs.Words.{◌≡◌, ◌⊎◌, inl, inr, ℕ, ◌==◌, ◌||◌, Bool, true, false, List, [], ◌∷◌, Option, Some, None, refl, sym, ap, subst, ◌∙◌, arith, nat_tests, slice_get, is_some, option_map, list_any, lookup, is_at, same_tid-self, same_tid, Member, Tid, Act, voter_exact, changed_at_here, Inv, BookValue, book_after, effect, OnRecord, Voter, entries_of, entry_of, is_recording, or_parts, or_left, or_right}
use Rattle.qs_base.specs.declared.identifiers.Outcome.TheVariants as outcomes
use Rattle.qs_book_journal.specs.declared.entry.Act.TheVariants as acts
use Rattle.qs_book_laws.proofs.Alikes.{voter_equal}
use Rattle.qs_book_laws.proofs.Faces.{vote_by, recorded_by}
use Rattle.qs_book_laws.proofs.Maps.{lookup_put_apart, removed_none}
use Rattle.qs_book_laws.proofs.Steps.{stepped}
use Rattle.qs_book_laws.proofs.Stills.{Facet, facet}
use Rattle.qs_book_machine.specs.Lawful.{IsLawful}
use Rattle.qs_book_machine.specs.Nodes as machine
use Rattle.qs_ops.specs.declared.vote.Vote.TheVariants as votes
use Rattle.qs_world_lawful.specs.Logged.{is_plain}
use Rattle.qs_world_lawful.proofs.LogActs.{next, next_there, plain_facets, records_are, with_facet}
use Rattle.qs_world_runs.specs.PlacesGo.{is_restart}

abbrev HasRecord : machine.NodeValue → Tid → ℕ → Type 0
HasRecord state tid s = is_some (machine.record_of state tid s) ≡ true

-- the node after one act, or after some
pub record From (n : ℕ) (new : BookValue) (state : machine.NodeValue) (recording : Tid → ℕ → Bool) : Type 0 where
  pub next : machine.NodeValue
  pub there : slice_get new.nodes n ≡ Some next
  pub from : (tid : Tid) (s : ℕ) → HasRecord next tid s → HasRecord state tid s ⊎ (recording tid s ≡ true)

module _ (n stamp : ℕ) where
  abbrev OneFrom : Act → BookValue → machine.NodeValue → Type 0
  OneFrom act book state = From n (effect book (entry_of n stamp act)) state (λ tid s. is_recording tid s act)

  plain_from : (act : Act) → is_plain act ≡ true → (book : BookValue) (state : machine.NodeValue) → slice_get book.nodes n ≡ Some state → OneFrom act book state
  plain_from act plain book state there =
      let at = with_facet (slice_get (effect book (entry_of n stamp act)).nodes n) (facet state) (plain_facets stamp n act book plain n ∙ ap (option_map facet) there) in
      record { next = at.0; there = at.1; from = λ tid s has. inl (ap (λ (rs : List (Voter × OnRecord)). is_some (lookup (is_at (machine.voter_cmp (machine.voter tid s))) rs)) (sym (ap (λ (f : Facet). f.records) at.2)) ∙ has) }

  same_number : (a b : ℕ) → a ≡ b → (b == a) ≡ true
  same_number a b e = grind (arith, nat_tests, e)

  vote_from : (t : Tid) (member : Member) (covers : ℕ) (book : BookValue) (state : machine.NodeValue) → slice_get book.nodes n ≡ Some state → OneFrom (acts.Vote t member votes.Recoverable covers) book state
  vote_from t member covers book state there = record { next = voting state; there = changed_at_here voting book.nodes n state there; from = λ tid s has. by tid s has (is_at (machine.voter_cmp (machine.voter tid s)) own) refl }
    where
      voting : machine.NodeValue → machine.NodeValue
      voting = vote_by book n t member votes.Recoverable covers

      own : Voter
      own = machine.voter t member.server.0

      by : (tid : Tid) (s : ℕ) → HasRecord (voting state) tid s → (b : Bool) → is_at (machine.voter_cmp (machine.voter tid s)) own ≡ b → HasRecord state tid s ⊎ (is_recording tid s (acts.Vote t member votes.Recoverable covers) ≡ true)
      by tid s has false far = inl (ap is_some (sym (lookup_put_apart machine.voter_cmp own (recorded_by book n t member covers (machine.pending_at state t member.server.0)) (λ x. voter_equal own x) (is_at (machine.voter_cmp (machine.voter tid s))) far state.records)) ∙ has)
      by tid s has true near = let e : machine.voter tid s ≡ own = voter_exact (machine.voter tid s) own near in
          inr (rw (subst (λ (x : Tid). same_tid t x ≡ true) (sym (ap (λ (v : Voter). v.tid) e)) (same_tid-self t), same_number s member.server.0 (ap (λ (v : Voter). v.server.0) e)) refl)

  learn_from : (t : Tid) (member : Member) (book : BookValue) (i : Inv book) (state : machine.NodeValue) → slice_get book.nodes n ≡ Some state → OneFrom (acts.Learn t member outcomes.Commit) book state
  learn_from t member book i state there = record {
    next = next book stamp n state i there t member.server;
    there = next_there book stamp n state i there t member.server;
    from = λ tid s has. inl (by tid s (machine.record_of state tid s) refl (ap (λ (rs : List (Voter × OnRecord)). is_some (lookup (is_at (machine.voter_cmp (machine.voter tid s))) rs)) (sym (records_are book stamp n state i there t member.server)) ∙ has));
  }
    where
      by : (tid : Tid) (s : ℕ) (o : Option OnRecord) → machine.record_of state tid s ≡ o → is_some (lookup (is_at (machine.voter_cmp (machine.voter tid s))) (Rattle.std.specs.Map.remove_entry (is_at (machine.voter_cmp (machine.voter t member.server.0))) state.records)) ≡ true → HasRecord state tid s
      by tid s (Some rec) is has = ap is_some is
      by tid s None is has = absurd (let none = removed_none (is_at (machine.voter_cmp (machine.voter t member.server.0))) (is_at (machine.voter_cmp (machine.voter tid s))) state.records is in cc (sym (ap is_some none) ∙ has))

  one_from : (act : Act) → is_restart act ≡ false → (book : BookValue) → Inv book → (state : machine.NodeValue) → slice_get book.nodes n ≡ Some state → OneFrom act book state
  one_from (acts.Vote t member votes.Recoverable covers) still book i state there = vote_from t member covers book state there
  one_from (acts.Learn t member outcomes.Commit) still book i state there = learn_from t member book i state there
  one_from (acts.Restart inc pend done) still book i state there = absurd (cc still)
  one_from act still book i state there = plain_from act refl book state there

  pub all_from : (done : List Act) → list_any is_restart done ≡ false → (book : BookValue) → Inv book → IsLawful book (entries_of n stamp done) → (state : machine.NodeValue) → slice_get book.nodes n ≡ Some state
      → From n (book_after book (entries_of n stamp done)) state (λ tid s. list_any (is_recording tid s) done)
  all_from [] still book i lawful state there = record { next = state; there = there; from = λ tid s has. inl has }
  all_from (act ∷ done) still book i lawful state there =
      let both = or_parts (is_restart act) (list_any is_restart done) still in
      let one : OneFrom act book state = one_from act both.0 book i state there in
      let more = all_from done both.1 (effect book (entry_of n stamp act)) (stepped book (entry_of n stamp act) i lawful.0).inv lawful.1 one.next one.there in
      record { next = more.next; there = more.there; from = λ tid s has. by tid s one (more.from tid s has) }
    where
      by : (tid : Tid) (s : ℕ) → (one : OneFrom act book state) → HasRecord one.next tid s ⊎ (list_any (is_recording tid s) done ≡ true) → HasRecord state tid s ⊎ ((is_recording tid s act || list_any (is_recording tid s) done) ≡ true)
      by tid s one (inr later) = inr (or_right (is_recording tid s act) (list_any (is_recording tid s) done) later)
      by tid s one (inl has) = of (one.from tid s has)
        where
          of : HasRecord state tid s ⊎ (is_recording tid s act ≡ true) → HasRecord state tid s ⊎ ((is_recording tid s act || list_any (is_recording tid s) done) ≡ true)
          of (inl was) = inl was
          of (inr now) = inr (or_left (is_recording tid s act) (list_any (is_recording tid s) done) now)
