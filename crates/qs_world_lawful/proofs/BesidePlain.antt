-- What an entry does that leaves each transaction as it is looked at: what the machine has beside the node stands on.
use Rattle.qs_world_lawful.proofs.Words.{◌≡◌, ℕ, true, [], ◌∷◌, ◌++◌, Option, Some, None, refl, sym, ap, subst, ◌∙◌, is_at, lookup, remove_entry, option_map, slice_get, ClientNo, NodeNo, Tid, Act, Alike, age, Facet, facet, BookValue, find_transaction, borrower_at, has_no_record, effect, effect_act, TransactionValue, Answer, Cause, enter, Work, client_cmp, here, Setting, OpenCommand, entry_of, InRun, HasOwner, HoldsBeside, HoldsClock, HoldsTidBeside, IsTrueCause, book_at, is_plain}
use Rattle.qs_book_journal.specs.declared.entry.Act.TheVariants as acts
use Rattle.qs_book_laws.proofs.Acts as of
use Rattle.qs_book_machine.specs.Nodes as machine
use Rattle.qs_node_step.specs.Bringing.{answer}
use Rattle.qs_node_step.specs.State.{NodeValue}
use Rattle.qs_world_lawful.proofs.BesideActs.{Steps, answered_steps, asked_steps, counted_steps, given_steps, inc_on, lent_steps, owners_alike, records_same, steps_as}
use Rattle.qs_world_lawful.proofs.BesideGoes.{Goes, goes_elim, goes_entry, goes_self}
use Rattle.qs_world_lawful.proofs.BesideParts.{CommittedOn, PartStep, part_same, tid_on}
use Rattle.qs_world_lawful.proofs.LogActs.{plain_facets}
use Rattle.qs_world_lawful.proofs.Truths.{of_some}

-- ---- the machine goes on: the node stands in it, in the same incarnation, and owners do

pub record MachineOn (old new : BookValue) (n : ℕ) (state : machine.NodeValue) : Type 0 where
  pub next : machine.NodeValue
  pub there : slice_get new.nodes n ≡ Some next
  pub inc : next.inc ≡ state.inc
  pub owners : ((tid : Tid) (tx : TransactionValue) → find_transaction old tid ≡ Some tx → HasOwner old tx) → (tid : Tid) (tx : TransactionValue) → find_transaction new tid ≡ Some tx → HasOwner new tx

pub machine_alike : (old new : BookValue) (n : ℕ) (state : machine.NodeValue) → slice_get old.nodes n ≡ Some state → Alike old new → MachineOn old new n state
machine_alike old new n state was a = by (slice_get new.nodes n) refl (a.ages n)
  where
    by : (o : Option machine.NodeValue) → slice_get new.nodes n ≡ o → option_map age o ≡ option_map age (slice_get old.nodes n) → MachineOn old new n state
    by None now same = absurd (no (same ∙ ap (option_map age) was))
      where
        no : None ≡ Some (age state) → ⊥
        no e = cc e
    by (Some next) now same = record { next = next; there = now; inc = inc_on old new n state next was now (a.ages n); owners = owners_alike old new a }

module _ (old new : BookValue) (node fresh : NodeValue) (setting : fresh.setting ≡ node.setting) (h : HoldsBeside old node) (m : MachineOn old new node.setting.node.0 h.state) where
  pub beside_by : HoldsClock fresh → ((t : Tid) → HoldsTidBeside new m.next fresh t) → HoldsBeside new fresh
  beside_by clock at = record {
    state = m.next;
    there = subst (λ (s : Setting). slice_get new.nodes s.node.0 ≡ Some m.next) (sym setting) m.there;
    inc = m.inc ∙ (h.inc ∙ ap (λ (s : Setting). s.inc) (sym setting));
    owners = m.owners h.owners;
    at = at;
    clock = clock;
  }

-- an entry that puts nothing on record leaves what is there
pub plain_records : (stamp : ℕ) (book : BookValue) (n : ℕ) (act : Act) → is_plain act ≡ true → (state next : machine.NodeValue) → slice_get book.nodes n ≡ Some state → slice_get (effect book (entry_of n stamp act)).nodes n ≡ Some next
    → (t : Tid) → has_no_record state t ≡ true → has_no_record next t ≡ true
plain_records stamp book n act plain state next was now t none = records_same state next (ap (λ (f : Facet). f.records) facets) t ∙ none
  where
    facets : facet next ≡ facet state
    facets = of_some (sym (ap (option_map facet) now) ∙ (plain_facets stamp n act book plain n ∙ ap (option_map facet) was))

-- ---- an entry that leaves all transactions

module _ (stamp : ℕ) (book : BookValue) (act : Act) (plain : is_plain act ≡ true) (node fresh : NodeValue) (setting : fresh.setting ≡ node.setting)
    (causes : (tid : Tid) (cause : Cause) → IsTrueCause book tid cause → IsTrueCause (effect book (entry_of node.setting.node.0 stamp act)) tid cause) (h : HoldsBeside book node) where
  abbrev new : BookValue
  new = effect book (entry_of node.setting.node.0 stamp act)

  pub beside_plain : Alike book (effect book (entry_of node.setting.node.0 stamp act)) → Steps node.setting.node node.setting.inc book (effect book (entry_of node.setting.node.0 stamp act)) → HoldsClock fresh
      → ((t : Tid) → CommittedOn node fresh t) → ((t : Tid) → PartStep node fresh t) → HoldsBeside (effect book (entry_of node.setting.node.0 stamp act)) fresh
  beside_plain alike steps clock committed parts =
      let m : MachineOn book new node.setting.node.0 h.state = machine_alike book new node.setting.node.0 h.state h.there alike in
      beside_by book new node fresh setting h m clock
      (λ t. tid_on book new h.state m.next node fresh t setting (causes t) (plain_records stamp book node.setting.node.0 act plain h.state m.next h.there m.there t) (steps t) (committed t) (h.at t) (parts t))

-- ---- such rules

module _ (stamp : ℕ) (before : BookValue) (run : InRun before) where
  abbrev On : Work → Work → Type 0
  On work new = Goes stamp before run work new

  -- the entry alone
  goes_told : (work : Work) (act : Act) → is_plain act ≡ true → ((book : BookValue) → Alike book (effect_act stamp (here work).0 act book)) → ((h : NodeNo) (inc : ℕ) (book : BookValue) → Steps h inc book (effect_act stamp (here work).0 act book)) → On work (enter act work)
  goes_told work act plain alike steps = goes_entry stamp before run work (enter act work) act refl refl refl refl
      (λ fine inv causes h. beside_plain stamp (book_at stamp before work) act plain work.node work.node refl causes h
      (let a = alike (book_at stamp before work) in record { faces = a.faces; ages = a.ages; tolds = a.tolds })
      (steps_as (here work) work.node.setting.inc (book_at stamp before work) (effect_act stamp (here work).0 act (book_at stamp before work)) _ refl (steps (here work) work.node.setting.inc (book_at stamp before work)))
      h.clock (λ t is. is) (λ t. part_same work.node work.node t refl))

  pub goes_asked : (tid : Tid) (work : Work) → On work (enter (acts.Ask tid) work)
  goes_asked tid work = goes_told work (acts.Ask tid) refl (λ book. of.by_ask tid book) (λ h inc book. asked_steps h inc tid book.place book)

  pub goes_counted : (tid : Tid) (peer : NodeNo) (up_to : ℕ) (work : Work) → On work (enter (acts.Counted tid peer up_to) work)
  goes_counted tid peer up_to work = goes_told work (acts.Counted tid peer up_to) refl (λ book. of.by_count (here work).0 tid peer up_to book) (λ h inc book. counted_steps h inc (here work).0 tid peer up_to book)

  pub goes_loan : (tid : Tid) (client : ClientNo) (work : Work) → On work (enter (acts.Loan tid client) work)
  goes_loan tid client work = goes_told work (acts.Loan tid client) refl (λ book. of.by_loan (here work).0 tid client book) (λ h inc book. lent_steps h inc _ tid (borrower_at client (here work).0) book)

  pub goes_yield : (tid : Tid) (client : ClientNo) (work : Work) → On work (enter (acts.Yield tid client) work)
  goes_yield tid client work = goes_told work (acts.Yield tid client) refl (λ book. of.by_yield (here work).0 tid client book) (λ h inc book. given_steps h inc _ tid (borrower_at client (here work).0) book)

  -- an answer, which ends a command
  pub goes_answer : (client : ClientNo) (said : Answer) (work : Work) → On work (answer client said work)
  goes_answer client said work = goes_elim stamp before run (lookup (is_at (client_cmp client)) work.node.commands) work work answered (λ none. goes_self stamp before run work)
      (λ command is. goes_entry stamp before run work (answered command) (acts.Answer client command.line.line said) refl refl refl refl
      (λ fine inv causes h. beside_plain stamp (book_at stamp before work) (acts.Answer client command.line.line said) refl work.node (answered command).node refl causes h
      (let a = of.by_answer client command.line.line (book_at stamp before work) in record { faces = a.faces; ages = a.ages; tolds = a.tolds })
      (steps_as (here work) work.node.setting.inc (book_at stamp before work) (effect_act stamp (here work).0 (acts.Answer client command.line.line said) (book_at stamp before work)) _ refl
      (answered_steps (here work) work.node.setting.inc client command.line.line (book_at stamp before work)))
      (record { ticks = h.clock.ticks; room = h.clock.room }) (λ t is. is) (λ t. part_same work.node (answered command).node t refl)))
    where
      answered : OpenCommand → Work
      answered command = record work {
        node = record work.node { commands = remove_entry (is_at (client_cmp client)) work.node.commands };
        out = record work.out {
          answers = work.out.answers ++ record { client = client; answer = record { line = command.line.line; answer = said } } ∷ [];
          entries = work.out.entries ++ acts.Answer client command.line.line said ∷ [];
        };
      }
