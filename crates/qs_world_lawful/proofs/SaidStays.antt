-- What a message says is so for good, through every lawful history: what it says of the cell, of votes and of what stood open stays.
use Rattle.qs_world_lawful.proofs.Words.{◌≡◌, ℕ, ◌==◌, ◌++◌, [], ◌∷◌, Bool, true, false, List, Option, Some, None, ◌≤◌, length, zero, suc, arith, refl, ap, sym, ◌∙◌, append_assoc, list_any-append, slice_get_within, list_any, option_map, ◌||◌, is_some, slice_get, NodeNo, Outcome, Tid, Act, Entry, face, ran_run, opening_holds, Inv, after_both, held, ran, IsCoherent, BookValue, cell_of_transaction, find_transaction, inc_at, IsLawful, book_after, broken, broken_at, effect, opening, TransactionValue}
use Rattle.qs_world_lawful.proofs.Words.{is_open, Opened, Cell, Cause, Message, IsTrueCause, HasOutcome, Channels, Parcel, HoldsChannels, IsSaid}
use Rattle.qs_base.specs.declared.identifiers.Outcome.TheVariants as outcomes
use Rattle.qs_book_journal.specs.declared.entry.Act.TheVariants as acts
use Rattle.qs_book_laws.proofs.Faces.{Face}
use Rattle.qs_book_laws.proofs.GoneByEntries.{is_gone_only, is_gone_whenever}
use Rattle.qs_book_laws.proofs.Steps.{stepped}
use Rattle.qs_book_laws.specs.Gone.{IsGone, restarts_into}
use Rattle.qs_book_machine.specs.Clauses.{is_gone_cause}
use Rattle.qs_book_machine.specs.Lawful.{is_in_order}
use Rattle.qs_book_machine.specs.Nodes.{NodeValue}
use Rattle.qs_book_machine.specs.declared.transaction.Cell.TheVariants as cells
use Rattle.qs_ops.specs.declared.answer.Cause.TheVariants as causes
use Rattle.qs_packet.specs.declared.message.Message.TheVariants as messages
use Rattle.qs_world_lawful.proofs.ParcelsKept.{channels_later}
use Rattle.qs_world_lawful.specs.Parcels.{IsThere}
use Rattle.qs_world_lawful.proofs.LogActs.{fresh}
use Rattle.qs_world_lawful.proofs.SaidOn.{HasSaidMore, IsNew, SaidOn, acted_said, said_self, said_then}
use Rattle.qs_world_lawful.proofs.Truths.{of_some}

-- nothing stands past the end alone
past_end : {A : Type 0} (xs : List A) (k : ℕ) → slice_get xs k ≡ None → length xs ≤ k
past_end [] k none = grind (arith)
past_end (x ∷ xs) zero none = absurd (cc none)
past_end (x ∷ xs) (suc k) none = let rest = past_end xs k none in grind (arith, rest)

-- ---- each entry, and a history

one_said : (book : BookValue) (entry : Entry) → Inv book → broken book entry ≡ None → SaidOn book (effect book entry)
one_said book entry i lawful = acted_said entry.stamp entry.node.0 entry.act book (by entry.act refl (slice_get book.nodes entry.node.0) refl (held (is_in_order book entry) 1 _ lawful).1)
  where
    by : (act : Act) → entry.act ≡ act → (o : Option NodeValue) → slice_get book.nodes entry.node.0 ≡ o → broken_at book entry.stamp entry.node.0 o entry.act ≡ None → IsNew book act
    by (acts.Begin tid label client) is None there h = absurd (cc h)
    by (acts.Begin tid label client) is (Some state) there h = fresh book entry.stamp entry.node.0 state i there tid label client (ap (λ (a : Act). broken book (record entry { act = a })) (sym is) ∙ lawful)
    by (acts.Issue tid issuer member number op) is o there h = tt
    by (acts.Serve tid member from number reply) is o there h = tt
    by (acts.Vote tid member ballot covers) is o there h = tt
    by (acts.Ask tid) is o there h = tt
    by (acts.Counted tid peer up_to) is o there h = tt
    by (acts.Decide tid outcome cause) is o there h = tt
    by (acts.Ending tid member) is o there h = tt
    by (acts.Learn tid member outcome) is o there h = tt
    by (acts.Answer client line said) is o there h = tt
    by (acts.Loan tid client) is o there h = tt
    by (acts.Yield tid client) is o there h = tt
    by acts.Tick is o there h = tt
    by (acts.Crash cause) is o there h = tt
    by (acts.Restart inc pend done) is o there h = tt

all_said : (entries : List Entry) (book : BookValue) → Inv book → IsLawful book entries → SaidOn book (book_after book entries)
all_said [] book i lawful = said_self book
all_said (entry ∷ entries) book i lawful = said_then book (effect book entry) (book_after (effect book entry) entries) (one_said book entry i lawful.0) (all_said entries (effect book entry) (stepped book entry i lawful.0).inv lawful.1)

module _ (opened : List Opened) (history more : List Entry) (coherent : IsCoherent opened) (lawful : IsLawful (opening opened) history) (then_lawful : IsLawful (book_after (opening opened) history) more) where
  abbrev old : BookValue
  old = book_after (opening opened) history

  abbrev new : BookValue
  new = book_after old more

  inv_old : Inv old
  inv_old = (ran history (opening opened) (opening_holds opened coherent) lawful).inv

  said : SaidOn old new
  said = all_said more old inv_old then_lawful

  -- ---- cells

  closed_still : (tid : Tid) (cell : Cell) → is_open cell ≡ false → cell_of_transaction (find_transaction old tid) ≡ Some cell → cell_of_transaction (find_transaction new tid) ≡ Some cell
  closed_still tid cell closed is = by (find_transaction old tid) refl is
    where
      at : (o : Option TransactionValue) (seen : Face) → option_map face o ≡ Some seen → cell_of_transaction o ≡ Some seen.cell
      at None seen e = absurd (cc e)
      at (Some tx) seen e = ap (λ (f : Face). Some f.cell) (of_some e)

      by : (o : Option TransactionValue) → find_transaction old tid ≡ o → cell_of_transaction o ≡ Some cell → cell_of_transaction (find_transaction new tid) ≡ Some cell
      by None found e = absurd (cc e)
      by (Some tx) found e = at (find_transaction new tid) (face tx) ((ran more old inv_old then_lawful).kept tid (face tx) (ap (option_map face) found) (ap is_open (of_some e) ∙ closed)) ∙ e

  outcome_still : (tid : Tid) (outcome : Outcome) → HasOutcome old tid outcome → HasOutcome new tid outcome
  outcome_still tid outcomes.Commit is = closed_still tid cells.Commit refl is
  outcome_still tid outcomes.Abort is = closed_still tid cells.Abort refl is

  -- ---- what stood open

  pub whole : IsLawful (opening opened) (history ++ more)
  whole = joined history (opening opened) lawful then_lawful
    where
      joined : (es : List Entry) (book : BookValue) → IsLawful book es → IsLawful (book_after book es) more → IsLawful book (es ++ more)
      joined [] book a b = b
      joined (e ∷ es) book a b = (a.0, joined es (effect book e) a.1 b)

  or_more : (p : Entry → Bool) (xs : List Entry) → list_any p xs ≡ true → list_any p (xs ++ more) ≡ true
  or_more p xs is = list_any-append p xs more ∙ rw is refl

  gone_more : (tid : Tid) (node : NodeNo) (gone : ℕ) → IsGone (opening opened) history tid node gone → IsGone (opening opened) (history ++ more) tid node gone
  gone_more tid node gone g = record {
    ran = by (inc_at (opening opened) node == gone) (list_any (restarts_into node gone) history) g.ran (or_more (restarts_into node gone) history);
    stood = record { early = g.stood.early; late = g.stood.late ++ more; parts = ap (λ (es : List Entry). es ++ more) g.stood.parts ∙ append_assoc g.stood.early g.stood.late more; restarted = g.stood.restarted; open_then = g.stood.open_then };
  }
    where
      by : (a b : Bool) → (a || b) ≡ true → (b ≡ true → list_any (restarts_into node gone) (history ++ more) ≡ true) → (a || list_any (restarts_into node gone) (history ++ more)) ≡ true
      by true b is rest = refl
      by false b is rest = rest is

  gone_still : (tid : Tid) (peer : NodeNo) (gone : ℕ) (tx later : TransactionValue) → find_transaction old tid ≡ Some tx → find_transaction new tid ≡ Some later → is_gone_cause (slice_get old.nodes peer.0) tx peer gone ≡ true → is_gone_cause (slice_get new.nodes peer.0) later peer gone ≡ true
  gone_still tid peer gone tx later was is cause = by (slice_get old.nodes peer.0) refl (slice_get new.nodes peer.0) refl cause
    where
      joined : book_after (opening opened) (history ++ more) ≡ new
      joined = after_both history more (opening opened)

      by : (o : Option NodeValue) → slice_get old.nodes peer.0 ≡ o → (p : Option NodeValue) → slice_get new.nodes peer.0 ≡ p → is_gone_cause o tx peer gone ≡ true → is_gone_cause p later peer gone ≡ true
      by None was_there p now_there h = absurd (cc h)
      by (Some before) was_there None now_there h = absurd (lost before was_there now_there)
        where
          lost : (b : NodeValue) → slice_get old.nodes peer.0 ≡ Some b → slice_get new.nodes peer.0 ≡ None → ⊥
          lost b was_there now_there = let within = slice_get_within old.nodes peer.0 b was_there in let past = past_end new.nodes peer.0 now_there in let same = ran_run more old in grind (arith, within, past, same)
      by (Some before) was_there (Some after) now_there h =
          is_gone_whenever opened (history ++ more) tid peer gone later after coherent whole (ap (λ (b : BookValue). find_transaction b tid) joined ∙ is) (ap (λ (b : BookValue). slice_get b.nodes peer.0) joined ∙ now_there)
          (gone_more tid peer gone (is_gone_only opened history tid peer gone tx before coherent lawful was was_there h))

  -- ---- causes and messages

  cause_still : (tid : Tid) (cause : Cause) → IsTrueCause old tid cause → IsTrueCause new tid cause
  cause_still tid (causes.Voted member reason) t = let s : HasSaidMore (find_transaction new tid) t.0 = said tid t.0 t.1 in (s.0, s.1, s.2.refused member reason t.2)
  cause_still tid (causes.Gone peer gone) t = let s : HasSaidMore (find_transaction new tid) t.0 = said tid t.0 t.1 in (s.0, s.1, gone_still tid peer gone t.0 s.0 t.1 s.1 t.2)
  cause_still tid causes.Asked t = absurd t
  cause_still tid (causes.Home inc) t = absurd t
  cause_still tid (causes.Room need room) t = absurd t
  cause_still tid (causes.Old age) t = absurd t

  there_still : (tid : Tid) → IsThere old tid → IsThere new tid
  there_still tid is = by (find_transaction old tid) refl is
    where
      by : (o : Option TransactionValue) → find_transaction old tid ≡ o → is_some o ≡ true → is_some (find_transaction new tid) ≡ true
      by None found there = absurd (cc there)
      by (Some tx) found there = ap (λ (o : Option TransactionValue). is_some o) (said tid tx found).1

  pub said_stays : (message : Message) → IsSaid old message → IsSaid new message
  said_stays messages.Hello is = tt
  said_stays (messages.Request tid label member number issuer op) is = there_still tid is
  said_stays (messages.Answered tid member number reply) is = tt
  said_stays (messages.AskVote tid) is = let s : HasSaidMore (find_transaction new tid) is.0 = said tid is.0 is.1 in (s.0, s.1, s.2.asked is.2)
  said_stays (messages.Covered tid up_to) is = tt
  said_stays (messages.VotedYes tid up_to told) is = tt
  said_stays (messages.VotedAbort tid cause) is = cause_still tid cause is
  said_stays (messages.Tell tid outcome) is = outcome_still tid outcome is
  said_stays (messages.Told tid further) is = λ names. closed_still tid cells.Abort refl (is names)
  said_stays (messages.Inquire tid) is = there_still tid is

  pub channels_stay : (size : ℕ) (c : Channels Parcel) → HoldsChannels old size c → HoldsChannels new size c
  channels_stay size c h = channels_later old new size c (λ n m parcel is. record { between = is.between; goes = is.goes; says = said_stays parcel.message is.says }) h
