-- What a client's command issues waits then: the owner's at its home, which has not decided; a borrower's while its loan stands, with the command in hand.
use Rattle.qs_world_runs.proofs.Words.{◌≡◌, inl, inr, ℕ, ◌==◌, ◌&&◌, ◌||◌, not, Bool, true, false, List, [], ◌∷◌, Option, Some, None, refl, sym, ap, subst, ◌∙◌, if◌then◌else◌, is_at, filter, list_any, lookup, same_tid, ClientNo, Member, NodeNo, Tid, same_node, Command, ScriptLine, last_taken, KeptLabel, Decided, Lent, Answer, Op, client_server, kept_outcome, borrower_command, is_aborted, is_void, lent_command, loan_command, with_loan, answer, decided_answer, open_command, owner_command}
use Rattle.qs_world_runs.proofs.Words.{request_as, request_command, label_at, Work, client_cmp, borrower_waits, command_came, is_owner, labelled, obey, owner_waits, wait_command, wait_on, waits_at, with_command, Issued, OpenCommand, Outstanding, is_engaged, is_sound, same_flag, known_sound, same_is, is_loan_in, IsRunning, IsBorrowed, is_lent_to, LeavesPlaces, eqb-self, not_implied, or_right}
use Rattle.qs_book_journal.specs.declared.script_line.Command.TheVariants as commands
use Rattle.qs_book_laws.proofs.Maps.{lookup_put}
use Rattle.qs_ops.specs.declared.answer.Answer.TheVariants as answers
use Rattle.qs_node_step.specs.Commands.{with_issued}
use Rattle.qs_node_step.specs.Requests.{next_number}
use Rattle.qs_world_refine.proofs.Maps.{lookup_changed}
use Rattle.qs_world_refine.proofs.SoundCommands.{loan_open}
use Rattle.qs_world_lawful.specs.Face.{is_loan_here}
use Rattle.qs_world_lawful.proofs.BorrowersCommands.{present_stands}
use Rattle.qs_world_runs.proofs.AwaitedCommands.{client_self}
use Rattle.qs_world_runs.proofs.FoundCommands.{HasLabels}
use Rattle.qs_world_runs.proofs.IssuedNone.{none_left, none_yielded}
use Rattle.qs_world_runs.proofs.IssuedWaits.{IsAway, IsOpenHere, IsReady, Waited, open_here, waited_if, waited_issued, waited_none}
use Rattle.qs_world_runs.proofs.LeftSteps.{aborting_leaves, asking_leaves, begun_leaves, request_leaves, take_leaves}
use Rattle.qs_world_runs.proofs.PlacesLeft.{answer_leaves}

any_in : {A : Type 0} (p q r : A → Bool) → ((x : A) → q x ≡ true → p x ≡ true → r x ≡ true) → (xs : List A) → list_any p (filter q xs) ≡ true → list_any r xs ≡ true
any_in p q r both [] is = is
any_in p q r both (x ∷ xs) is = by (q x) (p x) refl refl is (any_in p q r both xs)
  where
    by : (a b : Bool) → q x ≡ a → p x ≡ b → list_any p (filter q (x ∷ xs)) ≡ true → (list_any p (filter q xs) ≡ true → list_any r xs ≡ true) → (r x || list_any r xs) ≡ true
    by true true in_it so any more = let now : r x ≡ true = both x in_it so in rw now refl
    by true false in_it so any more = or_right (r x) (list_any r xs) (more (rw so at (rw in_it at any)))
    by false b in_it so any more = or_right (r x) (list_any r xs) (more (rw in_it at any))

module _ (tid : Tid) (issuer member : Member) (number : ℕ) (op : Op) (client : ClientNo) (work : Work) where
  abbrev Goes : Work → Type 0
  Goes new = Waited tid issuer member number op work new

  left : (new : Work) → LeavesPlaces tid work new → Goes new
  left new leaves = waited_none tid issuer member number op work new (none_left tid issuer member number op work new leaves)

  still : Goes work
  still = λ has. inl has

  said : (what : Answer) → Goes (answer client what work)
  said what = left (answer client what work) (answer_leaves tid client what work)

  either : (b : Bool) (x y : Work) → (b ≡ true → Goes x) → (b ≡ false → Goes y) → Goes (if b then x else y)
  either b x y p q = waited_if tid issuer member number op b x y work p q

  -- ---- a command in hand, at its label

  module _ (hand : OpenCommand) (there : lookup (is_at (client_cmp client)) work.node.commands ≡ Some hand) (begun : KeptLabel) (found : label_at hand.line.label work.node ≡ Some begun) (sound : is_sound work.node ≡ true) (away : IsAway member work) where
    abbrev the_request : Member → ℕ → Outstanding
    the_request m k = record { issuer = client_server client; member = m; number = k; count = 0 }

    abbrev marked : Member → ℕ → Work
    marked m k = with_issued client (record { tid = tid; member = m; number = k }) work

    abbrev Ready : Type 0
    Ready = (m : Member) (k : ℕ) → IsReady tid (the_request m k) (marked m k)

    own_waits : (m : Member) (o : Op) → Ready → Goes (request_command client tid m o work)
    own_waits m o ready = by (next_number tid m.node work)
      where
        by : (n : Option ℕ) → Goes (elim n [ None ↦ work | Some k ↦ request_as client tid m o k work ])
        by None = still
        by (Some k) = waited_issued tid issuer member number op (the_request m k) o (marked m k) away (ready m k)

    requests_wait : (t : Tid) (m : Member) (o : Op) → (t ≡ tid → Ready) → Goes (request_command client t m o work)
    requests_wait t m o ready = by (same_tid t tid) refl
      where
        by : (b : Bool) → same_tid t tid ≡ b → Goes (request_command client t m o work)
        by true same = subst (λ (u : Tid). Goes (request_command client u m o work)) (sym (same_is t tid same)) (own_waits m o (ready (same_is t tid same)))
        by false far = left (request_command client t m o work) (request_leaves tid t far client m o work)

    -- ---- the owner

    module _ (labels : HasLabels work) where
      owner_ready : is_owner client begun.owner ≡ true → begun.tid ≡ Some tid → kept_outcome tid work.node ≡ None → Ready
      owner_ready owns its kept m k = by begun.owner refl owns
        where
          flagged : (h b : Bool) → same_flag h b ≡ true → b ≡ true → h ≡ true
          flagged true b is so = refl
          flagged false true is so = absurd (cc is)
          flagged false false is so = absurd (cc so)

          near : (a b : NodeNo) → a ≡ b → same_node a b ≡ true
          near a b is = subst (λ (c : NodeNo). same_node a c ≡ true) is (eqb-self a.0)

          of : IsRunning work.node.manager tid → tid.home ≡ work.node.setting.node → IsReady tid (the_request m k) (marked m k)
          of runs home_here = record { part = runs.part; known = runs.known; undecided = runs.undecided; engaged = on; holds = inr (inl home) }
            where
              home : runs.part.engage.home ≡ true
              home = flagged runs.part.engage.home (same_node tid.home work.node.setting.node) (known_sound tid work.node runs.part runs.known sound).homed (near tid.home work.node.setting.node home_here)

              on : is_engaged runs.part ≡ true
              on = let undecided : runs.part.outcome ≡ None = runs.undecided in rw (home, undecided) refl

          by : (o : Option ClientNo) → begun.owner ≡ o → is_owner client o ≡ true → IsReady tid (the_request m k) (marked m k)
          by None none is = absurd (cc is)
          by (Some c) some is = of (labels.runs hand.line.label begun tid c found its some kept) (labels.homed hand.line.label begun tid c found its some)

      owner_waits_on : is_owner client begun.owner ≡ true → (o : Option Tid) → begun.tid ≡ o → (c : Command) → Goes (owner_command client o c work)
      owner_waits_on owns None its c = said answers.NotBegun
      owner_waits_on owns (Some t) its c = by (kept_outcome t work.node) refl
        where
          opened : kept_outcome t work.node ≡ None → (x : Command) → Goes (open_command client t x work)
          opened kept commands.Commit = left (open_command client t commands.Commit work) (asking_leaves tid t work)
          opened kept commands.Abort = left (open_command client t commands.Abort work) (aborting_leaves tid t work)
          opened kept (commands.Request m o) = requests_wait t m o (λ same. owner_ready owns (its ∙ ap (λ (u : Tid). Some u) same) (subst (λ (u : Tid). kept_outcome u work.node ≡ None) same kept))
          opened kept commands.Begin = still
          opened kept commands.Take = still
          opened kept commands.Yield = still

          by : (o : Option Decided) → kept_outcome t work.node ≡ o → Goes (elim o [ None ↦ open_command client t c work | Some decided ↦ answer client (decided_answer decided c) work ])
          by None kept = opened kept c
          by (Some decided) kept = said (decided_answer decided c)

    -- ---- a borrower

    module _ (other : is_owner client begun.owner ≡ false) where
      borrower_ready : (loan : Lent) → last_taken client tid work.node.kept.now.loans ≡ Some loan → loan.yielded ≡ false → is_void tid loan work.node ≡ false → Ready
      borrower_ready loan last given valid m k = record { part = here.part; known = here.known; undecided = here.undecided; engaged = here.engaged; holds = inr (inr borrowed) }
        where
          here : IsOpenHere tid work
          here = open_here tid work (loan_open client tid loan work last given valid sound)

          lends : (s c i y : Bool) → s ≡ true → ((c && i) && not y) ≡ true → (c && (s && (not y && i))) ≡ true
          lends true true true false in_it so = refl
          lends true true true true in_it so = absurd (cc so)
          lends true true false y in_it so = absurd (cc so)
          lends true false i y in_it so = absurd (cc so)
          lends false c i y in_it so = absurd (cc in_it)

          lent : list_any (is_lent_to client tid work.node.setting.inc) work.node.kept.now.loans ≡ true
          lent = any_in (λ (x : Lent). is_loan_here client work.node.setting.inc x && not x.yielded) (is_loan_in tid) (is_lent_to client tid work.node.setting.inc)
              (λ x in_it so. lends (same_tid tid x.tid) (x.client.0 == client.0) (x.inc == work.node.setting.inc) x.yielded in_it so) work.node.kept.now.loans
              (present_stands client tid work.node.setting.inc work.node.kept.now.loans loan last given (not_implied (loan.inc == work.node.setting.inc) (is_aborted tid work.node) valid))

          borrowed : IsBorrowed tid m k (marked m k).node.commands work.node.kept.now work.node.setting.inc
          borrowed = record {
            client = client;
            command = record hand { issued = Some (record { tid = tid; member = m; number = k }) };
            there = lookup_changed (is_at (client_cmp client)) (λ (c : OpenCommand). record c { issued = Some (record { tid = tid; member = m; number = k }) }) work.node.commands hand there;
            issued = refl;
            begun = begun;
            label = found;
            other = other;
            lent = lent;
          }

      lent_waits : (t : Tid) (loan : Lent) → last_taken client t work.node.kept.now.loans ≡ Some loan → loan.yielded ≡ false → is_void t loan work.node ≡ false → (c : Command) → Goes (lent_command client t c work)
      lent_waits t loan last given valid (commands.Request m o) = requests_wait t m o (λ same. borrower_ready loan (subst (λ (u : Tid). last_taken client u work.node.kept.now.loans ≡ Some loan) same last) given (subst (λ (u : Tid). is_void u loan work.node ≡ false) same valid))
      lent_waits t loan last given valid commands.Yield = waited_none tid issuer member number op work (lent_command client t commands.Yield work) (none_yielded tid issuer member number op client t work)
      lent_waits t loan last given valid commands.Begin = still
      lent_waits t loan last given valid commands.Commit = still
      lent_waits t loan last given valid commands.Abort = still
      lent_waits t loan last given valid commands.Take = still

      loan_waits : (t : Tid) (c : Command) → Goes (loan_command client t c work)
      loan_waits t c = by (last_taken client t work.node.kept.now.loans) refl
        where
          by : (o : Option Lent) → last_taken client t work.node.kept.now.loans ≡ o → Goes (elim o [ None ↦ work | Some loan ↦ with_loan client t c loan work ])
          by None none = still
          by (Some loan) last = either loan.yielded (answer client answers.NotYours work) (if is_void t loan work.node then answer client answers.Ended work else lent_command client t c work) (λ given. said answers.NotYours)
              (λ given. either (is_void t loan work.node) (answer client answers.Ended work) (lent_command client t c work) (λ void. said answers.Ended) (λ valid. lent_waits t loan last given valid c))

      borrower_waits_on : (t : Tid) (c : Command) → Goes (borrower_command client t c work)
      borrower_waits_on t commands.Take = left (borrower_command client t commands.Take work) (take_leaves tid client t work)
      borrower_waits_on t commands.Begin = loan_waits t commands.Begin
      borrower_waits_on t commands.Commit = loan_waits t commands.Commit
      borrower_waits_on t commands.Abort = loan_waits t commands.Abort
      borrower_waits_on t commands.Yield = loan_waits t commands.Yield
      borrower_waits_on t (commands.Request m o) = loan_waits t (commands.Request m o)

    labelled_waits : HasLabels work → (c : Command) → Goes (labelled client begun c work)
    labelled_waits labels c = either (is_owner client begun.owner) (owner_command client begun.tid c work) (elim begun.tid [ None ↦ work | Some t ↦ borrower_command client t c work ])
        (λ owns. owner_waits_on labels owns begun.tid refl c) (λ other. lends other begun.tid)
      where
        lends : is_owner client begun.owner ≡ false → (o : Option Tid) → Goes (elim o [ None ↦ work | Some t ↦ borrower_command client t c work ])
        lends other None = still
        lends other (Some t) = borrower_waits_on other t c

    -- ---- one that stayed open

    open_waits : Goes (waits_at client hand begun work)
    open_waits = either (is_owner client begun.owner) (owner_waits client begun.tid hand.line.command work) (borrower_waits client hand.issued begun.tid hand.line.command work) (λ owns. owned begun.tid) (λ other. lent other hand.issued begun.tid)
      where
        owned : (o : Option Tid) → Goes (owner_waits client o hand.line.command work)
        owned None = still
        owned (Some t) = by (kept_outcome t work.node)
          where
            by : (o : Option Decided) → Goes (elim o [ None ↦ work | Some decided ↦ answer client (decided_answer decided hand.line.command) work ])
            by None = still
            by (Some decided) = said (decided_answer decided hand.line.command)

        lent : is_owner client begun.owner ≡ false → (i : Option Issued) (o : Option Tid) → Goes (borrower_waits client i o hand.line.command work)
        lent other (Some issued) o = either (is_aborted issued.tid work.node) (answer client answers.Ended work) work (λ so. said answers.Ended) (λ so. still)
        lent other None None = still
        lent other None (Some t) = borrower_waits_on other t hand.line.command

  pub wait_waits : is_sound work.node ≡ true → IsAway member work → Goes (wait_on work client)
  wait_waits sound away = by (lookup (is_at (client_cmp client)) work.node.commands) refl
    where
      at : (hand : OpenCommand) → lookup (is_at (client_cmp client)) work.node.commands ≡ Some hand → (o : Option KeptLabel) → label_at hand.line.label work.node ≡ o → Goes (elim o [ None ↦ work | Some begun ↦ waits_at client hand begun work ])
      at hand there None none = still
      at hand there (Some begun) found = open_waits hand there begun found sound away

      by : (o : Option OpenCommand) → lookup (is_at (client_cmp client)) work.node.commands ≡ o → Goes (elim o [ None ↦ work | Some hand ↦ wait_command client hand work ])
      by None none = still
      by (Some hand) there = at hand there (label_at hand.line.label work.node) refl

-- ---- one that comes

module _ (tid : Tid) (issuer member : Member) (number : ℕ) (op : Op) (line : ScriptLine) (first : Work) (sound : is_sound first.node ≡ true) (labels : HasLabels first) (away : IsAway member first) where
  abbrev coming : Work
  coming = with_command line first

  there : lookup (is_at (client_cmp line.client)) coming.node.commands ≡ Some (record { line = line; issued = None })
  there = lookup_put client_cmp line.client (record { line = line; issued = None }) (client_self line.client) first.node.commands

  under : (c : Command) → Waited tid issuer member number op coming (elim (label_at line.label coming.node) [ None ↦ coming | Some begun ↦ labelled line.client begun c coming ])
  under c = by (label_at line.label coming.node) refl
    where
      by : (o : Option KeptLabel) → label_at line.label coming.node ≡ o → Waited tid issuer member number op coming (elim o [ None ↦ coming | Some begun ↦ labelled line.client begun c coming ])
      by None none = λ has. inl has
      by (Some begun) found = labelled_waits tid issuer member number op line.client coming (record { line = line; issued = None }) there begun found sound away labels c

  obeyed : (c : Command) → Waited tid issuer member number op coming (obey line c coming)
  obeyed commands.Begin = waited_none tid issuer member number op coming (obey line commands.Begin coming) (none_left tid issuer member number op coming (obey line commands.Begin coming) (begun_leaves tid line coming))
  obeyed commands.Commit = under commands.Commit
  obeyed commands.Abort = under commands.Abort
  obeyed commands.Take = under commands.Take
  obeyed commands.Yield = under commands.Yield
  obeyed (commands.Request m o) = under (commands.Request m o)

  pub command_waits : Waited tid issuer member number op first (command_came line first)
  command_waits = obeyed line.command
