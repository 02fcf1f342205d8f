-- The entries that a node makes in a step leave what the machine has beside every other node that runs.
use Rattle.qs_world_lawful.proofs.Words.{◌≡◌, ◌⊎◌, inl, inr, ℕ, ◌++◌, true, false, List, [], ◌∷◌, Option, Some, None, refl, sym, ap, subst, ◌∙◌, is_some, slice_get, option_map, ClientNo, NodeNo, Outcome, Tid, Act, Entry, IsCoherent, after_both, lawful_front, lawful_rest, BookValue, find_transaction, ticks_at, has_no_record, IsLawful, book_after, broken, effect, opening, TransactionValue, begun, is_commit, is_outcome, Opened, Owner, Cell, Cause, Participant, IsAside, IsOfStep, HasOwner, HoldsBeside}
use Rattle.qs_world_lawful.proofs.Words.{HoldsEnded, HoldsNotes, HoldsPart, HoldsReads, HoldsStranger, HoldsTidBeside, IsTrueCause, Every}
use Rattle.qs_book_journal.specs.declared.entry.Act.TheVariants as acts
use Rattle.qs_book_machine.specs.Nodes as machine
use Rattle.qs_packet.specs.declared.message.Message.TheVariants as messages
use Rattle.qs_node_step.specs.State.{NodeValue}
use Rattle.qs_tm.specs.Manager as tm
use Rattle.qs_world_lawful.specs.Aside.{BeginsOwned}
use Rattle.qs_world_lawful.specs.AsideLaws.{EachKeepsOthersBeside, RunsAt}
use Rattle.qs_world_lawful.proofs.Apart.{Apart, same_or_apart}
use Rattle.qs_world_lawful.proofs.AsideActs.{owners_keep}
use Rattle.qs_world_lawful.proofs.AsideBegun.{IsGoing, begun_of, begun_same}
use Rattle.qs_world_lawful.proofs.AsideBeside.{notes_beside, outcome_beside, reads_beside, stranger_beside, uncommitted_back}
use Rattle.qs_world_lawful.proofs.AsideBook.{Goes, cell_away, goes_on, new, new_begins, node_on, owner_same, stood_away}
use Rattle.qs_world_lawful.proofs.AsideIssue.{NodeOn}
use Rattle.qs_world_lawful.proofs.AsideNode.{far, home_far, near}
use Rattle.qs_world_lawful.proofs.AsideTid.{asked_on}
use Rattle.qs_world_lawful.proofs.EntryTurns.{Begins, begins}
use Rattle.qs_world_lawful.proofs.LastsEntry.{lasts_on}
use Rattle.qs_world_lawful.proofs.LastsOpening.{lasts_first, lasts_ran}
use Rattle.qs_world_lawful.proofs.LastsWell.{LastsWell}
use Rattle.qs_world_lawful.proofs.LogFrames.{every_on}
use Rattle.qs_world_lawful.proofs.NumberedLogs.{opening_named}
use Rattle.qs_world_lawful.proofs.SaidStays.{said_stays, whole}
use Rattle.qs_world_lawful.proofs.Turning.{some_of}

some_not_none : {X : Type 0} (o : Option X) (x : X) → o ≡ Some x → o ≡ None → ⊥
some_not_none o x is none = cc (sym is ∙ none)

-- what it is for an act of a step: it begins a transaction, or leaves when each began
abbrev BeginsAct : Act → Type 0
BeginsAct act = (tid : Tid) × (label : List ℕ) × (client : ClientNo) × (act ≡ acts.Begin tid label client)

begins_or_goes : (act : Act) → IsOfStep act → BeginsAct act ⊎ IsGoing act
begins_or_goes (acts.Restart inc pend done) so = absurd so
begins_or_goes (acts.Begin tid label client) so = inl (tid, label, client, refl)
begins_or_goes (acts.Issue tid issuer member number op) so = inr tt
begins_or_goes (acts.Serve tid member from number reply) so = inr tt
begins_or_goes (acts.Vote tid member ballot covers) so = inr tt
begins_or_goes (acts.Ask tid) so = inr tt
begins_or_goes (acts.Counted tid peer up_to) so = inr tt
begins_or_goes (acts.Decide tid outcome cause) so = inr tt
begins_or_goes (acts.Ending tid member) so = inr tt
begins_or_goes (acts.Learn tid member outcome) so = inr tt
begins_or_goes (acts.Answer client line said) so = inr tt
begins_or_goes (acts.Loan tid client) so = inr tt
begins_or_goes (acts.Yield tid client) so = inr tt
begins_or_goes acts.Tick so = inr tt
begins_or_goes (acts.Crash cause) so = inr tt

module _ (book : BookValue) (entry : Entry) (w : LastsWell book) (h : broken book entry ≡ None) where
  abbrev after : BookValue
  after = new book entry w h

  -- what has an owner known to the machine has it on
  owner_there : IsOfStep entry.act → (client : ClientNo) → is_some (slice_get book.owners client.0) ≡ true → is_some (slice_get after.owners client.0) ≡ true
  owner_there of_step client is = by (slice_get book.owners client.0) refl
    where
      by : (o : Option Owner) → slice_get book.owners client.0 ≡ o → is_some (slice_get after.owners client.0) ≡ true
      by None none = absurd (cc (sym (ap is_some none) ∙ is))
      by (Some owner) found = ap is_some (owners_keep entry.stamp entry.node.0 entry.act of_step book client.0 owner found).1

  pub owned_on : IsOfStep entry.act → (other : Entry) → BeginsOwned book other → BeginsOwned after other
  owned_on of_step other owned tid label client is = owner_there of_step client (owned tid label client is)

  begun_kept : IsOfStep entry.act → (tid : Tid) (tx later : TransactionValue) → find_transaction book tid ≡ Some tx → find_transaction after tid ≡ Some later → later.begun_at ≡ tx.begun_at
  begun_kept of_step tid tx later was is = by (begins_or_goes entry.act of_step)
    where
      by : BeginsAct entry.act ⊎ IsGoing entry.act → later.begun_at ≡ tx.begun_at
      by (inr going) = some_of (sym (ap (option_map begun_of) is) ∙ (begun_same entry.stamp entry.node.0 entry.act going book tid ∙ ap (option_map begun_of) was))
      by (inl begin) = at (same_or_apart b.tid tid)
        where
          b : Begins book entry
          b = begins book entry w.inv h begin.0 begin.1 begin.2 begin.3

          at : (b.tid ≡ tid) ⊎ Apart b.tid tid → later.begun_at ≡ tx.begun_at
          at (inl same) = absurd (some_not_none (find_transaction book tid) tx was (ap (find_transaction book) (sym same) ∙ b.new))
          at (inr apart) = ap begun_of (some_of (sym is ∙ (b.others tid apart ∙ was)))

  module _ (node : NodeValue) (aside : IsAside node.setting.node.0 node entry) (runs : RunsAt book node.setting.node.0) (owned : BeginsOwned book entry)
      (causes_on : (tid : Tid) (cause : Cause) → IsTrueCause book tid cause → IsTrueCause after tid cause) (b : HoldsBeside book node) where
    abbrev here : NodeNo
    here = node.setting.node

    n : NodeOn book after here b.state node.servers
    n = node_on book entry w h here (far book entry w h node aside) b.state b.there node.servers (runs b.state b.there) aside.of_step

    no_record_on : (tid : Tid) → has_no_record n.later tid ≡ has_no_record b.state tid
    no_record_on tid = ap (λ rs. has_no_record (record b.state { records = rs }) tid) n.records.records

    pub runs_on : RunsAt after here.0
    runs_on state there = ap (λ (x : machine.NodeValue). x.up) (some_of (sym there ∙ n.there)) ∙ (n.left.up ∙ runs b.state b.there)

    owners_on : (tid : Tid) (later : TransactionValue) → find_transaction after tid ≡ Some later → HasOwner after later
    owners_on tid later found client is = owner_there aside.of_step client (by (find_transaction book tid) refl)
      where
        by : (o : Option TransactionValue) → find_transaction book tid ≡ o → is_some (slice_get book.owners client.0) ≡ true
        by (Some tx) was =
            let p = goes_on book entry w h tid tx was in
            b.owners tid tx was client (sym (owner_same book entry w h tid tx p.0 p.2) ∙ (ap (λ (x : TransactionValue). x.owner) (some_of (sym p.1 ∙ found)) ∙ is))
        by None none = of (new_begins book entry w h tid none)
          where
            of : (find_transaction after tid ≡ None) ⊎ ((b : Begins book entry) × (b.tid ≡ tid)) → is_some (slice_get book.owners client.0) ≡ true
            of (inl gone) = absurd (some_not_none (find_transaction after tid) later found gone)
            of (inr (begin, same)) = subst (λ (c : ClientNo). is_some (slice_get book.owners c.0) ≡ true) (some_of (ap (λ (x : TransactionValue). x.owner) (some_of (sym begin.stands ∙ (ap (find_transaction after) same ∙ found))) ∙ is)) (owned begin.tid begin.label begin.client begin.act)

    module _ (tid : Tid) where
      abbrev held : HoldsTidBeside book b.state node tid
      held = b.at tid

      stands_on : (part : Participant) → tm.part_of tid node.manager ≡ Some part → is_some (find_transaction after tid) ≡ true
      stands_on part known = by (find_transaction book tid) refl
        where
          by : (o : Option TransactionValue) → find_transaction book tid ≡ o → is_some (find_transaction after tid) ≡ true
          by None none = absurd (cc (sym (ap is_some none) ∙ held.stands part known))
          by (Some tx) was = ap is_some (goes_on book entry w h tid tx was).1

      -- a transaction that stood: it turned, or is as it was
      part_like : (tx later : TransactionValue) (part : Participant) → find_transaction book tid ≡ Some tx → find_transaction after tid ≡ Some later → Goes book entry w h tid tx later
          → HoldsPart book b.state node tid tx part → HoldsPart after n.later node tid later part
      part_like tx later part was found goes p = record {
        notes = notes goes;
        asked = λ is. asked goes (p.asked is);
        outcome = λ o is. outcome goes o (p.outcome o is);
        causes = λ none. every_on (IsTrueCause book tid) (IsTrueCause after tid) (causes_on tid) part.causes (p.causes none);
        reads = λ none. reads goes (p.reads none);
        begun_at = λ home none. begun_kept aside.of_step tid tx later was found ∙ p.begun_at home none;
        records = λ home none unended. no_record_on tid ∙ p.records home none unended;
      }
        where
          notes : Goes book entry w h tid tx later → HoldsNotes here node.setting.inc tid later part
          notes (inl same) = subst (λ (x : TransactionValue). HoldsNotes here node.setting.inc tid x part) (sym same) p.notes
          notes (inr (t, r)) = notes_beside entry.node.0 t.now book.place here node.setting.inc tid tx later r (near book entry w h node aside) part p.notes

          asked : Goes book entry w h tid tx later → is_some tx.asked ≡ true → is_some later.asked ≡ true
          asked (inl same) is = ap (λ (x : TransactionValue). is_some x.asked) same ∙ is
          asked (inr (t, r)) is = asked_on entry.node.0 t.now book.place here node.setting.inc tid tx later r (near book entry w h node aside) is

          outcome : Goes book entry w h tid tx later → (o : Outcome) → is_outcome o tx.cell ≡ true → is_outcome o later.cell ≡ true
          outcome (inl same) o is = ap (λ (x : TransactionValue). is_outcome o x.cell) same ∙ is
          outcome (inr (t, r)) o is = outcome_beside entry.node.0 t.now book.place here node.setting.inc tid tx later r (near book entry w h node aside) o is

          reads : Goes book entry w h tid tx later → HoldsReads here node.setting.inc tid tx part → HoldsReads here node.setting.inc tid later part
          reads (inl same) x = subst (λ (x : TransactionValue). HoldsReads here node.setting.inc tid x part) (sym same) x
          reads (inr (t, r)) x = reads_beside entry.node.0 t.now book.place here node.setting.inc tid tx later r (near book entry w h node aside) part x

      parts_on : (later : TransactionValue) (part : Participant) → find_transaction after tid ≡ Some later → tm.part_of tid node.manager ≡ Some part → HoldsPart after n.later node tid later part
      parts_on later part found known = by (find_transaction book tid) refl
        where
          by : (o : Option TransactionValue) → find_transaction book tid ≡ o → HoldsPart after n.later node tid later part
          by None none = absurd (cc (sym (ap is_some none) ∙ held.stands part known))
          by (Some tx) was =
              let p = goes_on book entry w h tid tx was in
              part_like tx later part was found (subst (λ (x : TransactionValue). Goes book entry w h tid tx x) (some_of (sym p.1 ∙ found)) p.2) (held.parts tx part was known)

      strangers_on : (later : TransactionValue) → find_transaction after tid ≡ Some later → tm.part_of tid node.manager ≡ None → is_commit later.cell ≡ false → HoldsStranger here node.setting.inc tid later
      strangers_on later found unknown undone = by (find_transaction book tid) refl
        where
          like : (tx : TransactionValue) → find_transaction book tid ≡ Some tx → Goes book entry w h tid tx later → HoldsStranger here node.setting.inc tid later
          like tx was (inl same) = subst (λ (x : TransactionValue). HoldsStranger here node.setting.inc tid x) (sym same) (held.strangers tx was unknown (ap (λ (x : TransactionValue). is_commit x.cell) (sym same) ∙ undone))
          like tx was (inr (t, r)) = stranger_beside entry.node.0 t.now book.place here node.setting.inc tid tx later r (near book entry w h node aside)
              (held.strangers tx was unknown (uncommitted_back entry.node.0 t.now book.place here node.setting.inc tid tx later r (near book entry w h node aside) undone))

          fresh : (label : List ℕ) (client : ClientNo) (ticks : ℕ) → HoldsStranger here node.setting.inc tid (begun label client ticks)
          fresh label client ticks = record { unissued = λ count low. refl; unchanged = refl }

          by : (o : Option TransactionValue) → find_transaction book tid ≡ o → HoldsStranger here node.setting.inc tid later
          by (Some tx) was = let p = goes_on book entry w h tid tx was in like tx was (subst (λ (x : TransactionValue). Goes book entry w h tid tx x) (some_of (sym p.1 ∙ found)) p.2)
          by None none = of (new_begins book entry w h tid none)
            where
              of : (find_transaction after tid ≡ None) ⊎ ((b : Begins book entry) × (b.tid ≡ tid)) → HoldsStranger here node.setting.inc tid later
              of (inl gone) = absurd (some_not_none (find_transaction after tid) later found gone)
              of (inr (begin, same)) = subst (λ (x : TransactionValue). HoldsStranger here node.setting.inc tid x) (some_of (sym begin.stands ∙ (ap (find_transaction after) same ∙ found))) (fresh begin.label begin.client (ticks_at (slice_get book.nodes entry.node.0)))

      unbegun_on : find_transaction after tid ≡ None → has_no_record n.later tid ≡ true
      unbegun_on none = no_record_on tid ∙ held.unbegun (by (find_transaction book tid) refl)
        where
          by : (o : Option TransactionValue) → find_transaction book tid ≡ o → find_transaction book tid ≡ None
          by None is = is
          by (Some tx) was = let p = goes_on book entry w h tid tx was in absurd (some_not_none (find_transaction after tid) p.0 p.1 none)

      ended_on : (later : TransactionValue) → tid.home ≡ here → find_transaction after tid ≡ Some later → HoldsEnded node tid later
      ended_on later home found =
          let p = stood_away book entry w h tid later (home_far book entry w h node aside tid home) found in
          subst (λ (c : Cell). HoldsEnded node tid (record later { cell = c })) (sym (cell_away book entry w h tid p.0 later p.2 (home_far book entry w h node aside tid home))) (like p.0 (held.ended p.0 home p.1))
        where
          like : (tx : TransactionValue) → HoldsEnded node tid tx → HoldsEnded node tid (record later { cell = tx.cell })
          like tx e = record { committed = e.committed; unknown = e.unknown }

      at_on : HoldsTidBeside after n.later node tid
      at_on = record { stands = stands_on; parts = parts_on; strangers = strangers_on; unbegun = unbegun_on; ended = ended_on }

    pub beside_on : HoldsBeside after node
    beside_on = record { state = n.later; there = n.there; inc = n.left.inc ∙ b.inc; owners = owners_on; at = at_on; clock = b.clock }

-- ---- the entries of a step

owned_every : (book : BookValue) (entry : Entry) (w : LastsWell book) (h : broken book entry ≡ None) → IsOfStep entry.act → (more : List Entry) → Every (BeginsOwned book) more → Every (BeginsOwned (effect book entry)) more
owned_every book entry w h of_step more owned = every_on (BeginsOwned book) (BeginsOwned (effect book entry)) (owned_on book entry w h of_step) more owned

module _ (opened : List Opened) (coherent : IsCoherent opened) where
  entries_leave : (more history : List Entry) (book : BookValue) → book_after (opening opened) history ≡ book → IsLawful (opening opened) history → LastsWell book → IsLawful book more
      → (node : NodeValue) → Every (IsAside node.setting.node.0 node) more → Every (BeginsOwned book) more → RunsAt book node.setting.node.0 → HoldsBeside book node → HoldsBeside (book_after book more) node
  entries_leave [] history book same before w lawful node aside owned runs b = b
  entries_leave (entry ∷ more) history book same before w lawful node aside owned runs b =
      entries_leave more (history ++ entry ∷ []) (effect book entry) (after_both history (entry ∷ []) (opening opened) ∙ ap (λ (x : BookValue). effect x entry) same) lawful_next
      (lasts_on book entry w lawful.0) lawful.1 node aside.1 (owned_every book entry w lawful.0 aside.0.of_step more owned.1)
      (runs_on book entry w lawful.0 node aside.0 runs owned.0 causes_on b) (beside_on book entry w lawful.0 node aside.0 runs owned.0 causes_on b)
    where
      one : IsLawful (book_after (opening opened) history) (entry ∷ [])
      one = subst (λ (x : BookValue). IsLawful x (entry ∷ [])) (sym same) (lawful.0, tt)

      lawful_next : IsLawful (opening opened) (history ++ entry ∷ [])
      lawful_next = whole opened history (entry ∷ []) coherent before one

      causes_on : (tid : Tid) (cause : Cause) → IsTrueCause book tid cause → IsTrueCause (effect book entry) tid cause
      causes_on tid cause = subst (λ (x : BookValue). IsTrueCause x tid cause → IsTrueCause (effect x entry) tid cause) same (said_stays opened history (entry ∷ []) coherent before one (messages.VotedAbort tid cause))

pub keeps_others_beside : EachKeepsOthersBeside
keeps_others_beside opened history more coherent numbered lawful node aside owned runs b =
    subst (λ (x : BookValue). HoldsBeside x node) (sym (after_both history more (opening opened)))
    (entries_leave opened coherent more history (book_after (opening opened) history) refl (lawful_front history more (opening opened) lawful)
    (lasts_ran history (opening opened) (lasts_first opened coherent (opening_named opened numbered)) (lawful_front history more (opening opened) lawful))
    (lawful_rest history more (opening opened) lawful) node aside owned runs b)
