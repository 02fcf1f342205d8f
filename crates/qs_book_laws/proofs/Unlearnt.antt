-- What files and audit of a node have pending of a transaction that is not aborted, and is not crossed there, they are still to learn.
use Rattle.qs_book_laws.proofs.Words.{◌≡◌, ◌⊎◌, inl, inr, ℕ, ◌==◌, ◌&&◌, ◌++◌, Bool, true, false, List, [], ◌∷◌, Option, Some, None, refl, sym, ap, subst, ◌∙◌, append_assoc, arith, length, nat_lt, if◌then◌else◌, le_refl, nat_tests, append-nil, slice_get, is_some, unwrap_or, list_any, option_map, same_member, same_tid, same_member-self, same_member-true, same_tid-self, Member, Outcome, Tid, Act, Entry, BookValue, cell_of_transaction, crossed_in, find_transaction, inc_at, is_done, broken_ending}
use Rattle.qs_book_laws.proofs.Words.{may_end, IsLawful, book_after, broken, broken_act, effect, NodeValue, opening, put_new_votes, restart, TransactionValue, is_abort, is_crossed, may_learn_still, part_of, serving_part, Opened, Cell, class_of, Op, Vote, IsCoherent, IsDecided, is_restart, restarts, change_served, changes_served, crossed_at, held_at, is_share, keeps_contents, lets_go, eq-eqb}
use Rattle.qs_base.specs.declared.identifiers.Outcome.TheVariants as outcomes
use Rattle.qs_book_journal.specs.declared.entry.Act.TheVariants as acts
use Rattle.qs_book_machine.specs.Clauses.{is_immediate}
use Rattle.qs_book_machine.specs.declared.transaction.Cell.TheVariants as cells
use Rattle.qs_ops.specs.declared.vote.Vote.TheVariants as votes
use Rattle.qs_book_laws.proofs.Again.{effect_nodes, reopened_there, restart_node}
use Rattle.qs_book_laws.proofs.Always.{step_so}
use Rattle.qs_book_laws.proofs.Ballots.{IsEven, lets_all_go}
use Rattle.qs_book_laws.proofs.Begun.{inc_in}
use Rattle.qs_book_laws.proofs.Counts.{count_in, count_of, no_count}
use Rattle.qs_book_laws.proofs.Covered.{one_more}
use Rattle.qs_book_laws.proofs.Durable.{IsLearn, IsRestart, IsServe, IsVote, going, learn_gone, none_served, ran_tidy, serving}
use Rattle.qs_book_laws.proofs.Ends.{held_there, lawful_node}
use Rattle.qs_book_laws.proofs.FoundParts.{OfFound, found_again, is_pending_again}
use Rattle.qs_book_laws.proofs.Grows.{begins, step_alters, step_grows}
use Rattle.qs_book_laws.proofs.Histories.{learns_cell, stays}
use Rattle.qs_book_laws.proofs.Keeping.{is_live}
use Rattle.qs_book_laws.proofs.Holding.{left_of, right_of, serve_here, which}
use Rattle.qs_book_laws.proofs.Leaves.{serves_on}
use Rattle.qs_book_laws.proofs.LiveOpenings.{opening_lives}
use Rattle.qs_book_laws.proofs.Lives.{Restarting, inc_is, inc_of_node, none_born, part_left, reborn, restarting, same_life, step_part}
use Rattle.qs_book_laws.proofs.Living.{Living, effect_restart, ran_living}
use Rattle.qs_book_laws.proofs.Openings.{opening_holds}
use Rattle.qs_book_laws.proofs.Outcomes.{Inv}
use Rattle.qs_book_laws.proofs.Parts.{part_after}
use Rattle.qs_book_laws.proofs.Shares.{number}
use Rattle.qs_book_laws.proofs.ShutOpenings.{opening_shut}
use Rattle.qs_book_laws.proofs.Steps.{after_both, held, lawful_front, lawful_rest, ran, stepped}
use Rattle.qs_book_laws.proofs.Takes.{some_same}
use Rattle.qs_book_laws.proofs.Tidy.{AllTidy, opening_tidy}
use Rattle.qs_book_laws.proofs.Turns.{Stands}
use Rattle.qs_book_laws.proofs.StillToLearn.{Learning, IsMost, IsUnlearnt, covers_each, found_unlearnt, recoverable, serves_unlearnt, stays_unlearnt}
use Rattle.qs_book_laws.proofs.Unserved.{unserved}
use Rattle.qs_book_laws.proofs.NotPending.{none_held}
use Rattle.qs_book_laws.proofs.LearningOpens.{first}

module _ (opened : List Opened) (coherent : IsCoherent opened) (tid : Tid) (member : Member) (keeps : keeps_contents member.server.0 ≡ true) (there : nat_lt member.node.0 (length opened) ≡ true) (at_home : nat_lt tid.home.0 (length opened) ≡ true) where
  abbrev pub at : List Entry → BookValue
  at history = book_after (opening opened) history

  side : (b : Bool) × (member.server.0 ≡ number b)
  side = which member.server.0 keeps

  -- one entry more
  module _ (history : List Entry) (entry : Entry) (lawful : IsLawful (opening opened) (history ++ entry ∷ [])) (l : Learning tid member (at history)) where
    abbrev book : BookValue
    book = at history

    abbrev new : BookValue
    new = effect book entry

    front : IsLawful (opening opened) history
    front = lawful_front history (entry ∷ []) (opening opened) lawful

    last : broken book entry ≡ None
    last = (lawful_rest history (entry ∷ []) (opening opened) lawful).0

    inv : Inv book
    inv = (ran history (opening opened) (opening_holds opened coherent) front).inv

    tidy : AllTidy book.nodes
    tidy = ran_tidy history (opening opened) (opening_tidy opened coherent)

    most_next : (i : ℕ) (tx : TransactionValue) → find_transaction new tid ≡ Some tx → IsMost (part_of tx member i)
    most_next i = step_so tid (λ (tx : TransactionValue). IsMost (part_of tx member i)) book entry inv last (λ label client ticks. le_refl 0)
        (part_left tid member i IsMost (λ covers changes. le_refl 0) (λ now stamp here act part. covers_each tid member i now stamp here act part) book entry inv last) (l.most i)

    -- nothing is pending of what begins
    begins_empty : find_transaction book tid ≡ None → (tx : TransactionValue) → find_transaction new tid ≡ Some tx → is_crossed tx member ≡ false → held_at new tid member ≡ []
    begins_empty none tx found plain = by (begins tid entry.act) refl
      where
        live : is_live (find_transaction book tid) member ≡ true
        live = ap (λ (o : Option TransactionValue). is_live o member) none

        living : Living tid member book (changes_served (opening opened) tid member history)
        living = ran_living tid member keeps history (opening opened) [] (opening_holds opened coherent) (opening_shut opened coherent) (opening_tidy opened coherent) front (λ first. opening_lives opened tid member keeps there at_home first) live

        even : (i : ℕ) → IsEven (count_of book tid member i)
        even i = subst IsEven (sym (ap (λ (o : Option TransactionValue). unwrap_or (option_map (count_in member i) o) no_count) none)) refl

        nothing : held_at book tid member ≡ []
        nothing = living.keeping.pending (λ i below. even i) ∙ unserved tid member history (opening opened) (opening_holds opened coherent) front none

        keeps_it : (act : Act) → begins tid act ≡ true → (lets_go tid member entry.node.0 act ≡ false) × (change_served book tid member act ≡ [])
        keeps_it (acts.Begin t label client) is = (refl, refl)
        keeps_it act is = absurd (cc is)

        by : (b : Bool) → begins tid entry.act ≡ b → held_at new tid member ≡ []
        by false off = absurd (cc (sym (ap is_some found) ∙ ((step_alters tid member book entry off last).known ∙ ap is_some none)))
        by true is =
            one_more book entry tid member keeps last (ap (λ (o : Option TransactionValue). crossed_in o member) none) (keeps_it entry.act is).0 (ap (λ (o : Option TransactionValue). crossed_in o member) found ∙ plain)
            ∙ (ap (λ (ops : List Op). held_at book tid member ++ ops) (keeps_it entry.act is).1 ∙ (append-nil (held_at book tid member) ∙ nothing))

    module _ (tx : TransactionValue) (found : find_transaction new tid ≡ Some tx) (unabort : is_abort tx.cell ≡ false) (plain : is_crossed tx member ≡ false) (has : held_at new tid member ≡ [] → ⊥) where
      -- it stood before so
      module _ (old : TransactionValue) (was : find_transaction book tid ≡ Some old) where
        open_before : is_abort old.cell ≡ false
        open_before = by old.cell refl
          where
            aborted : old.cell ≡ cells.Abort → tx.cell ≡ cells.Abort
            aborted is =
                let d : IsDecided new tid cells.Abort = stays book new tid cells.Abort (stepped book entry inv last).kept (record { decided = refl; cell_is = ap cell_of_transaction was ∙ ap Some is }) in
                some_same tx.cell cells.Abort (sym (ap cell_of_transaction found) ∙ d.cell_is)

            by : (c : Cell) → old.cell ≡ c → is_abort c ≡ false
            by cells.Open is = refl
            by cells.Commit is = refl
            by cells.Abort is = absurd (cc (sym (ap is_abort (aborted is)) ∙ unabort))

        plain_before : is_crossed old member ≡ false
        plain_before = by (is_crossed old member) refl
          where
            by : (b : Bool) → is_crossed old member ≡ b → b ≡ false
            by false is = refl
            by true is = absurd (cc (sym ((step_grows tid member book entry inv last).crossed (ap (λ (o : Option TransactionValue). crossed_in o member) was ∙ is)) ∙ (ap (λ (o : Option TransactionValue). crossed_in o member) found ∙ plain)))

        crossed_before : crossed_at book tid member ≡ false
        crossed_before = ap (λ (o : Option TransactionValue). crossed_in o member) was ∙ plain_before

        crossed_now : crossed_at new tid member ≡ false
        crossed_now = ap (λ (o : Option TransactionValue). crossed_in o member) found ∙ plain

        -- in the same life of its node
        module _ (inc : ℕ) (inc_was : inc_in book member.node.0 ≡ Some inc) (far : restarts member.node entry ≡ false) where
          abbrev now : ℕ
          now = inc_at book entry.node

          part_is : part_of tx member inc ≡ part_after tid member inc now entry.stamp entry.node.0 entry.act (part_of old member inc)
          part_is =
              let s = step_part tid member inc (part_of old member inc) book entry inv last (none_born member inc entry far) (record { tx = old; found = was; holds = refl }) in
              ap (λ (t : TransactionValue). part_of t member inc) (some_same tx s.tx (sym found ∙ s.found)) ∙ s.holds

          -- it lets nothing go: then nothing is pending
          lets : lets_go tid member entry.node.0 entry.act ≡ true → ⊥
          lets is = goes (going tid member entry.node.0 entry.act is)
            where
              read_only : (ballot : Vote) (covers : ℕ) → entry.act ≡ acts.Vote tid member ballot covers → ballot ≡ votes.ReadOnly
              read_only ballot covers its = of ballot (subst (λ (a : Act). lets_go tid member entry.node.0 a ≡ true) its is)
                where
                  of : (b : Vote) → lets_go tid member entry.node.0 (acts.Vote tid member b covers) ≡ true → b ≡ votes.ReadOnly
                  of votes.ReadOnly e = refl
                  of (votes.Abort reason) e = absurd (cc e)
                  of votes.Volatile e = absurd (cc e)
                  of votes.Recoverable e = absurd (cc e)

              learns : (outcome : Outcome) → entry.act ≡ acts.Learn tid member outcome → ⊥
              learns outcomes.Commit its = has (learn_gone tid member book entry keeps tidy last its).pending
              learns outcomes.Abort its =
                  let at_node : (node : NodeValue) × (slice_get book.nodes entry.node.0 ≡ Some node) × (broken_act book entry.stamp entry.node.0 node (acts.Learn tid member outcomes.Abort) ≡ None) =
                  lawful_node book entry (acts.Learn tid member outcomes.Abort) its (λ node. refl) last in
                  let cell : cell_of_transaction (find_transaction book tid) ≡ Some cells.Abort = learns_cell entry.node.0 at_node.0 (find_transaction book tid) member outcomes.Abort at_node.2 in
                  cc (sym (ap is_abort (some_same old.cell cells.Abort (sym (ap cell_of_transaction was) ∙ cell))) ∙ open_before)

              goes : IsVote tid member entry.act ⊎ (IsLearn tid member entry.act ⊎ IsRestart member.node.0 entry.node.0 entry.act) → ⊥
              goes (inl vote) = has (lets_all_go tid member side.0 side.1 book entry vote.1 (vote.2 ∙ ap (λ (b : Vote). acts.Vote tid member b vote.1) (read_only vote.0 vote.1 vote.2)) last (λ node node_is. tidy member.node.0 node node_is))
              goes (inr (inl learn)) = learns learn.0 learn.1
              goes (inr (inr (i, pend, done, its, here))) = never (same entry.node.0 here) (ap is_restart its)
                where
                  same : (n : ℕ) → n ≡ member.node.0 → (n == member.node.0) ≡ true
                  same n e = grind (arith, nat_tests, e)

                  never : (entry.node.0 == member.node.0) ≡ true → is_restart entry.act ≡ true → ⊥
                  never a b = let both : ((entry.node.0 == member.node.0) && is_restart entry.act) ≡ true = rw (a, b) refl in cc (sym both ∙ far)

          ends : (t : Tid) (other : Member) → entry.act ≡ acts.Ending t other → is_share tid member t other ≡ true → ⊥
          ends t other its share = cc (sym (immediate (find_transaction book t) at_node.2) ∙ ap is_immediate (ap (λ (m : Member). class_of m.server.0) own ∙ recoverable side.0 member.server.0 side.1))
            where
              at_node : (node : NodeValue) × (slice_get book.nodes entry.node.0 ≡ Some node) × (broken_act book entry.stamp entry.node.0 node (acts.Ending t other) ≡ None)
              at_node = lawful_node book entry (acts.Ending t other) its (λ node. refl) last

              own : other ≡ member
              own = same_member-true other member (right_of (same_tid t tid) (same_member other member) share)

              immediate : (o : Option TransactionValue) → broken_ending entry.node.0 at_node.0 o other ≡ None → is_immediate (class_of other.server.0) ≡ true
              immediate None h = absurd (cc h)
              immediate (Some x) h = left_of (is_immediate (class_of other.server.0)) _ (left_of _ _ (held (may_end entry.node.0 at_node.0 x other) 90 None h).0)

          same_life_goes : IsUnlearnt (part_of tx member inc)
          same_life_goes = subst IsUnlearnt (sym part_is) (by (lets_go tid member entry.node.0 entry.act) refl (serves_on tid member entry.act) refl)
            where
              more : lets_go tid member entry.node.0 entry.act ≡ false → held_at new tid member ≡ held_at book tid member ++ change_served book tid member entry.act
              more off = one_more book entry tid member keeps last crossed_before off crossed_now

              by : (a : Bool) → lets_go tid member entry.node.0 entry.act ≡ a → (b : Bool) → serves_on tid member entry.act ≡ b
                  → IsUnlearnt (part_after tid member inc now entry.stamp entry.node.0 entry.act (part_of old member inc))
              by true is b serves = absurd (lets is)
              by false off false idle = stays_unlearnt tid member inc now entry.stamp entry.node.0 (part_of old member inc)
                  (l.waits old inc was inc_was open_before plain_before (λ none. has (more off ∙ (ap (λ (ops : List Op). held_at book tid member ++ ops) (none_served tid member book entry.act idle) ∙ (append-nil (held_at book tid member) ∙ none)))))
                  entry.node.0 entry.act idle off ends
              by false off true serves = serve_goes (serving tid member entry.act serves)
                where
                  serve_goes : IsServe tid member entry.act → IsUnlearnt (part_after tid member inc now entry.stamp entry.node.0 entry.act (part_of old member inc))
                  serve_goes (from, n, reply, its) = subst (λ (a : Act). IsUnlearnt (part_after tid member inc now entry.stamp entry.node.0 a (part_of old member inc))) (sym its)
                      (subst (λ (b : Bool). IsUnlearnt (if b then serving_part (class_of member.server.0) entry.stamp (is_done reply) (part_of old member inc) else part_of old member inc)) (sym own)
                      (serves_unlearnt (class_of member.server.0) entry.stamp (is_done reply) (part_of old member inc) (recoverable side.0 member.server.0 side.1) (l.most inc old was)))
                    where
                      at_node : (node : NodeValue) × (slice_get book.nodes entry.node.0 ≡ Some node) × (broken_act book entry.stamp entry.node.0 node (acts.Serve tid member from n reply) ≡ None)
                      at_node = lawful_node book entry (acts.Serve tid member from n reply) its (λ node. refl) last

                      here : member.node.0 ≡ entry.node.0
                      here = serve_here book entry.node.0 at_node.0 tid (find_transaction book tid) member from.0 n reply at_node.2

                      own : (same_tid tid tid && (same_member member member && (now == inc))) ≡ true
                      own = rw (same_tid-self tid, same_member-self member, eq-eqb now inc (inc_is book entry.node.0 inc (ap (inc_in book) (sym here) ∙ inc_was))) refl

      -- its node restarts
      module _ (inc : ℕ) (inc_now : inc_in new member.node.0 ≡ Some inc) (is : restarts member.node entry ≡ true) where
        abbrev r : Restarting member.node entry
        r = restarting member.node entry is

        abbrev mid : BookValue
        mid = put_new_votes member.node.0 r.pend book

        its : r.inc ≡ inc
        its = some_same r.inc inc (sym (reborn book entry member.node.0 r.inc r.pend r.done last r.act r.here).now ∙ inc_now)

        found_as : find_transaction (restart member.node.0 r.inc r.pend r.done book) tid ≡ Some tx
        found_as = sym (ap (λ (b : BookValue). find_transaction b tid) (effect_restart book entry member.node.0 r.inc r.pend r.done r.act r.here)) ∙ found

        restart_goes : IsUnlearnt (part_of tx member inc)
        restart_goes = by (find_transaction book tid) refl
          where
            empty : list_any (is_pending_again mid tid member r.done) r.pend ≡ false → held_at new tid member ≡ []
            empty none =
                let at_node = restart_node book entry member.node.0 r.inc r.pend r.done last r.act r.here in
                held_there new tid member _ (ap (λ (nodes : List NodeValue). slice_get nodes member.node.0) (effect_nodes book entry member.node.0 r.inc r.pend r.done r.act r.here) ∙ reopened_there member.node.0 r.inc r.pend r.done book at_node.0 at_node.1)
                ∙ none_held side.0 member side.1 r.inc r.pend r.done mid _ tid none

            of : (old : TransactionValue) → find_transaction book tid ≡ Some old → (b : Bool) → list_any (is_pending_again mid tid member r.done) r.pend ≡ b → IsUnlearnt (part_of tx member inc)
            of old was false none = absurd (has (empty none))
            of old was true again =
                let s : Stands tid (OfFound tid member r.inc) (restart member.node.0 r.inc r.pend r.done book) = found_again tid member r.inc r.pend r.done book again old was in
                found_unlearnt (part_of tx member inc) (subst (λ (i : ℕ). OfFound tid member i tx) its (subst (OfFound tid member r.inc) (some_same s.tx tx (sym s.found ∙ found_as)) s.holds))

            by : (o : Option TransactionValue) → find_transaction book tid ≡ o → IsUnlearnt (part_of tx member inc)
            by None none = absurd (cc (sym (ap is_some found) ∙ ((step_alters tid member book entry (ap (begins tid) r.act) last).known ∙ ap is_some none)))
            by (Some old) was = of old was (list_any (is_pending_again mid tid member r.done) r.pend) refl

    next : Learning tid member new
    next = record { most = most_next; waits = λ tx inc found inc_now unabort plain has. by tx inc found inc_now unabort plain has (restarts member.node entry) refl }
      where
        by : (tx : TransactionValue) (inc : ℕ) → find_transaction new tid ≡ Some tx → inc_in new member.node.0 ≡ Some inc → is_abort tx.cell ≡ false → is_crossed tx member ≡ false → (held_at new tid member ≡ [] → ⊥) → (b : Bool) → restarts member.node entry ≡ b → IsUnlearnt (part_of tx member inc)
        by tx inc found inc_now unabort plain has true is = restart_goes tx found unabort plain has inc inc_now is
        by tx inc found inc_now unabort plain has false far = of (find_transaction book tid) refl
          where
            of : (o : Option TransactionValue) → find_transaction book tid ≡ o → IsUnlearnt (part_of tx member inc)
            of None none = absurd (has (begins_empty none tx found plain))
            of (Some old) was = same_life_goes tx found unabort plain has old was inc (sym (same_life member.node book entry far last) ∙ inc_now) far

  on : (entries history : List Entry) → IsLawful (opening opened) (history ++ entries) → Learning tid member (at history) → Learning tid member (at (history ++ entries))
  on [] history lawful l = subst (λ (h : List Entry). Learning tid member (at h)) (sym (append-nil history)) l
  on (entry ∷ entries) history lawful l =
      let one : history ++ (entry ∷ entries) ≡ (history ++ entry ∷ []) ++ entries = sym (append_assoc history (entry ∷ []) entries) in
      let whole : IsLawful (opening opened) ((history ++ entry ∷ []) ++ entries) = subst (IsLawful (opening opened)) one lawful in
      let early : IsLawful (opening opened) (history ++ entry ∷ []) = lawful_front (history ++ entry ∷ []) entries (opening opened) whole in
      subst (λ (h : List Entry). Learning tid member (at h)) (sym one)
      (on entries (history ++ entry ∷ []) whole (subst (Learning tid member) (sym (after_both history (entry ∷ []) (opening opened))) (next history entry early l)))

  pub pending_learns : (history : List Entry) → IsLawful (opening opened) history → (tx : TransactionValue) (node : NodeValue) → find_transaction (at history) tid ≡ Some tx → slice_get (at history).nodes member.node.0 ≡ Some node
      → is_abort tx.cell ≡ false → is_crossed tx member ≡ false → (held_at (at history) tid member ≡ [] → ⊥) → may_learn_still (part_of tx member node.inc) ≡ true
  pending_learns history lawful tx node found node_there unabort plain has = (on history [] lawful (first opened tid member keeps there)).waits tx node.inc found (inc_of_node (at history) member.node.0 node node_there) unabort plain has
