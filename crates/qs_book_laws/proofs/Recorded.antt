-- What is on record of a committed transaction at files and audit, its member has still to learn.
use Rattle.qs_book_laws.proofs.Words.{◌≡◌, ◌⊎◌, inl, inr, ℕ, ◌==◌, ◌&&◌, ◌||◌, not, Bool, true, false, List, [], ◌∷◌, Option, Some, None, refl, sym, ap, subst, ◌∙◌, fold, arith, nat_le, nat_tests, slice_get, list_any}
use Rattle.qs_book_laws.proofs.Words.{same_member, same_tid, same_member-true, same_tid-true, Member, Tid, Entry, Found, BookValue, crossed_in, find_transaction, inc_at, broken_ending, may_end, broken, broken_act, effect, NodeValue, record_of, voter, is_among, is_found, member_at, new_votes, put_new_votes, record_at, restart, with_votes, without_records, TransactionValue, part_of, class_of, IsCommitted, is_restart, restarts, is_share, keeps_contents, lets_go}
use Rattle.qs_book_journal.specs.declared.entry.Act.TheVariants as acts
use Rattle.qs_book_machine.specs.Clauses.{is_immediate}
use Rattle.qs_book_machine.specs.Restart.{found_only}
use Rattle.qs_book_laws.proofs.Again.{effect_nodes, record_there, reopened_there, restart_node}
use Rattle.qs_book_laws.proofs.Begun.{inc_in}
use Rattle.qs_book_laws.proofs.Durable.{IsLearn, IsRestart, IsVote, going, learn_commits, learn_gone, never_serves, never_votes, rests, serving}
use Rattle.qs_book_laws.proofs.Ends.{lawful_node}
use Rattle.qs_book_laws.proofs.FoundOnly.{lost_goes, none_stays_none}
use Rattle.qs_book_laws.proofs.FoundParts.{OfFound, found_again, is_pending_again}
use Rattle.qs_book_laws.proofs.Holding.{left_of, right_of, which}
use Rattle.qs_book_laws.proofs.Leaves.{serves_on}
use Rattle.qs_book_laws.proofs.Lives.{Restarting, none_born, reborn, restarting, same_life, step_part}
use Rattle.qs_book_laws.proofs.Living.{effect_restart}
use Rattle.qs_book_laws.proofs.Outcomes.{Inv}
use Rattle.qs_book_laws.proofs.Parts.{part_after}
use Rattle.qs_book_laws.proofs.Ready.{Ready}
use Rattle.qs_book_laws.proofs.Recovers.{forgotten}
use Rattle.qs_book_laws.proofs.Shares.{number}
use Rattle.qs_book_laws.proofs.Steps.{held}
use Rattle.qs_book_laws.proofs.StillToLearn.{IsUnlearnt, found_unlearnt, recoverable, stays_unlearnt}
use Rattle.qs_book_laws.proofs.Takes.{some_same}
use Rattle.qs_book_laws.proofs.Tidy.{AllTidy, votes_tidy}
use Rattle.qs_book_laws.proofs.Turns.{Stands}

-- a vote that is found, of a transaction whose Commit is not found, and that is not crossed there, is pending again
again_of : (mid : BookValue) (tid : Tid) (member : Member) (done : List Tid) (pend : List Found) → is_among done tid ≡ false → crossed_in (find_transaction mid tid) (member_at member.node.0 member.server.0) ≡ false
    → is_found pend (voter tid member.server.0) ≡ true → list_any (is_pending_again mid tid member done) pend ≡ true
again_of mid tid member done [] off plain is = absurd (cc is)
again_of mid tid member done (f ∷ pend) off plain is = by (same_tid f.tid tid) refl (f.server.0 == member.server.0) refl (nat_le 0 f.covers) is (again_of mid tid member done pend off plain)
  where
    kept : same_tid f.tid tid ≡ true → (f.server.0 == member.server.0) ≡ true → is_pending_again mid tid member done f ≡ true
    kept same at =
        let e : f.tid ≡ tid = same_tid-true f.tid tid same in
        let among : is_among done f.tid ≡ false = ap (is_among done) e ∙ off in
        let crossed : crossed_in (find_transaction mid f.tid) (member_at member.node.0 member.server.0) ≡ false = ap (λ (t : Tid). crossed_in (find_transaction mid t) (member_at member.node.0 member.server.0)) e ∙ plain in
        all (f.server.0 == member.server.0) (is_among done f.tid) (crossed_in (find_transaction mid f.tid) (member_at member.node.0 member.server.0)) (same_tid f.tid tid) at among crossed same
      where
        all : (a b c d : Bool) → a ≡ true → b ≡ false → c ≡ false → d ≡ true → ((a && not (b || c)) && d) ≡ true
        all true false false true p q r s = refl
        all false b c d p q r s = absurd (cc p)
        all true true c d p q r s = absurd (cc q)
        all true false true d p q r s = absurd (cc r)
        all true false false false p q r s = absurd (cc s)

    first : (a b : Bool) → a ≡ true → (a || b) ≡ true
    first true b h = refl
    first false b h = absurd (cc h)

    later : (a b : Bool) → b ≡ true → (a || b) ≡ true
    later true b h = refl
    later false b h = h

    by : (a : Bool) → same_tid f.tid tid ≡ a → (b : Bool) → (f.server.0 == member.server.0) ≡ b → (c : Bool) → ((a && (b && c)) || is_found pend (voter tid member.server.0)) ≡ true
        → (is_found pend (voter tid member.server.0) ≡ true → list_any (is_pending_again mid tid member done) pend ≡ true) → (is_pending_again mid tid member done f || list_any (is_pending_again mid tid member done) pend) ≡ true
    by true same true at c h more = first _ _ (kept same at)
    by true same false at c h more = later _ _ (more h)
    by false same b at c h more = later _ _ (more h)

module _ (tid : Tid) (member : Member) (keeps : keeps_contents member.server.0 ≡ true) where
  side : (b : Bool) × (member.server.0 ≡ number b)
  side = which member.server.0 keeps

  -- what is on record there is still to learn
  abbrev pub IsDue : BookValue → Type 0
  IsDue book = (tx : TransactionValue) (inc : ℕ) → find_transaction book tid ≡ Some tx → inc_in book member.node.0 ≡ Some inc → (record_at member.node.0 book tid member.server.0 ≡ None → ⊥) → IsUnlearnt (part_of tx member inc)

  -- one entry more
  module _ (book : BookValue) (entry : Entry) (i : Inv book) (tidy : AllTidy book.nodes) (r : Ready book tid member) (last : broken book entry ≡ None) (now_is : IsCommitted (effect book entry) tid) (due : IsDue book) where
    abbrev new : BookValue
    new = effect book entry

    module _ (tx : TransactionValue) (inc : ℕ) (found : find_transaction new tid ≡ Some tx) (inc_now : inc_in new member.node.0 ≡ Some inc) (has : record_at member.node.0 new tid member.server.0 ≡ None → ⊥) where
      module _ (far : restarts member.node entry ≡ false) where
        abbrev now : ℕ
        now = inc_at book entry.node

        inc_was : inc_in book member.node.0 ≡ Some inc
        inc_was = sym (same_life member.node book entry far last) ∙ inc_now

        part_is : part_of tx member inc ≡ part_after tid member inc now entry.stamp entry.node.0 entry.act (part_of r.tx member inc)
        part_is =
            let s = step_part tid member inc (part_of r.tx member inc) book entry i last (none_born member inc entry far) (record { tx = r.tx; found = r.found; holds = refl }) in
            ap (λ (t : TransactionValue). part_of t member inc) (some_same tx s.tx (sym found ∙ s.found)) ∙ s.holds

        lets : lets_go tid member entry.node.0 entry.act ≡ true → ⊥
        lets is = goes (going tid member entry.node.0 entry.act is)
          where
            goes : IsVote tid member entry.act ⊎ (IsLearn tid member entry.act ⊎ IsRestart member.node.0 entry.node.0 entry.act) → ⊥
            goes (inl vote) = never_votes tid member book entry last now_is vote
            goes (inr (inl learn)) = has (learn_gone tid member book entry keeps tidy last (learn_commits tid member book entry last now_is learn)).on_record
            goes (inr (inr (k, pend, done, its, here))) = never (same entry.node.0 here) (ap is_restart its)
              where
                same : (n : ℕ) → n ≡ member.node.0 → (n == member.node.0) ≡ true
                same n e = grind (arith, nat_tests, e)

                never : (entry.node.0 == member.node.0) ≡ true → is_restart entry.act ≡ true → ⊥
                never a b = let both : ((entry.node.0 == member.node.0) && is_restart entry.act) ≡ true = rw (a, b) refl in cc (sym both ∙ far)

        ends : (t : Tid) (other : Member) → entry.act ≡ acts.Ending t other → is_share tid member t other ≡ true → ⊥
        ends t other its share = cc (sym (immediate (find_transaction book t) at_node.2) ∙ ap is_immediate (ap (λ (m : Member). class_of m.server.0) own ∙ recoverable side.0 member.server.0 side.1))
          where
            at_node : (node : NodeValue) × (slice_get book.nodes entry.node.0 ≡ Some node) × (broken_act book entry.stamp entry.node.0 node (acts.Ending t other) ≡ None)
            at_node = lawful_node book entry (acts.Ending t other) its (λ node. refl) last

            own : other ≡ member
            own = same_member-true other member (right_of (same_tid t tid) (same_member other member) share)

            immediate : (o : Option TransactionValue) → broken_ending entry.node.0 at_node.0 o other ≡ None → is_immediate (class_of other.server.0) ≡ true
            immediate None h = absurd (cc h)
            immediate (Some x) h = left_of (is_immediate (class_of other.server.0)) _ (left_of _ _ (held (may_end entry.node.0 at_node.0 x other) 90 None h).0)

        idle : (b : Bool) → serves_on tid member entry.act ≡ b → serves_on tid member entry.act ≡ false
        idle false is = is
        idle true is = absurd (never_serves tid member book entry last r (serving tid member entry.act is))

        same_goes : IsUnlearnt (part_of tx member inc)
        same_goes = subst IsUnlearnt (sym part_is) (by (lets_go tid member entry.node.0 entry.act) refl)
          where
            by : (a : Bool) → lets_go tid member entry.node.0 entry.act ≡ a → IsUnlearnt (part_after tid member inc now entry.stamp entry.node.0 entry.act (part_of r.tx member inc))
            by true is = absurd (lets is)
            by false off = stays_unlearnt tid member inc now entry.stamp entry.node.0 (part_of r.tx member inc)
                (due r.tx inc r.found inc_was (λ none. has ((rests tid member book entry keeps i r last now_is off).on_record ∙ none)))
                entry.node.0 entry.act (idle (serves_on tid member entry.act) refl) off ends

      module _ (is : restarts member.node entry ≡ true) where
        abbrev q : Restarting member.node entry
        q = restarting member.node entry is

        abbrev mid : BookValue
        mid = put_new_votes member.node.0 q.pend book

        its : q.inc ≡ inc
        its = some_same q.inc inc (sym (reborn book entry member.node.0 q.inc q.pend q.done last q.act q.here).now ∙ inc_now)

        found_as : find_transaction (restart member.node.0 q.inc q.pend q.done book) tid ≡ Some tx
        found_as = sym (ap (λ (b : BookValue). find_transaction b tid) (effect_restart book entry member.node.0 q.inc q.pend q.done q.act q.here)) ∙ found

        node : (node : NodeValue) × (slice_get book.nodes member.node.0 ≡ Some node)
        node = let at = restart_node book entry member.node.0 q.inc q.pend q.done last q.act q.here in (at.0, at.1)

        abbrev voted : NodeValue
        voted = with_votes (new_votes member.node.0 book q.pend) node.0

        recorded : record_at member.node.0 new tid member.server.0 ≡ record_of (found_only q.pend (fold without_records voted q.done)) tid member.server.0
        recorded = record_there new tid member.node.0 member.server.0 _
            (ap (λ (nodes : List NodeValue). slice_get nodes member.node.0) (effect_nodes book entry member.node.0 q.inc q.pend q.done q.act q.here) ∙ reopened_there member.node.0 q.inc q.pend q.done book node.0 node.1)

        among : (b : Bool) → is_among q.done tid ≡ b → is_among q.done tid ≡ false
        among false off = off
        among true on = absurd (has (recorded ∙ none_stays_none q.pend (fold without_records voted q.done) tid member.server.0
            (subst (λ (k : ℕ). record_of (fold without_records voted q.done) tid k ≡ None) (sym side.1)
            (forgotten side.0 q.done tid voted (votes_tidy (new_votes member.node.0 book q.pend) node.0 (tidy member.node.0 node.0 node.1)) on))))

        found_it : (b : Bool) → is_found q.pend (voter tid member.server.0) ≡ b → is_found q.pend (voter tid member.server.0) ≡ true
        found_it true on = on
        found_it false off = absurd (has (recorded ∙ lost_goes q.pend (fold without_records voted q.done) tid member.server.0 off))

        plain : crossed_in (find_transaction mid tid) (member_at member.node.0 member.server.0) ≡ false
        plain = ap (λ (o : Option TransactionValue). crossed_in o member) r.found ∙ r.plain

        restart_goes : IsUnlearnt (part_of tx member inc)
        restart_goes =
            let again = again_of mid tid member q.done q.pend (among (is_among q.done tid) refl) plain (found_it (is_found q.pend (voter tid member.server.0)) refl) in
            let s : Stands tid (OfFound tid member q.inc) (restart member.node.0 q.inc q.pend q.done book) = found_again tid member q.inc q.pend q.done book again r.tx r.found in
            found_unlearnt (part_of tx member inc) (subst (λ (k : ℕ). OfFound tid member k tx) its (subst (OfFound tid member q.inc) (some_same s.tx tx (sym s.found ∙ found_as)) s.holds))

    -- what was on record is still to learn: so is what is
    pub due_step : IsDue new
    due_step tx inc found inc_now has = by (restarts member.node entry) refl
      where
        by : (b : Bool) → restarts member.node entry ≡ b → IsUnlearnt (part_of tx member inc)
        by true is = restart_goes tx inc found inc_now has is
        by false far = same_goes tx inc found inc_now has far
