-- What a node waits for stands on as its step enters something, keeps labels and outcomes, and takes and answers commands.
use Rattle.qs_world_runs.proofs.Words.{◌≡◌, ◌≢◌, ◌⊎◌, inl, inr, ℕ, ◌+◌, ◌-◌, ◌==◌, ◌&&◌, ◌||◌, Bool, true, false, List, [], ◌∷◌, ◌++◌, Option, Some, None, refl, sym, ap, subst, ◌∙◌, arith, append_assoc, if◌then◌else◌, nat_tests, insert_entry, is_at, find, lookup, remove_entry, ClientNo, NodeNo, Tid, peer_of, Act, Entry, ScriptLine, is_outcome_of, KeptLabel, Decided, changed_apart, is_count_of, client_no, Answer, Cause, client_of, answer, enter, keep_outcome, put_label, Work, client_cmp}
use Rattle.qs_world_runs.proofs.Words.{with_manager, with_command, Issued, OpenCommand, Manager, Outstanding, Participant, entries_of, entry_of, Every, AreApart, client_exact, same_client_or, of_some, Amid, Around, IsCommanded, NotAwaited, StandsSo, around, command_at}
use Rattle.qs_base.specs.declared.identifiers.Outcome.{Outcome}
use Rattle.qs_book_journal.specs.declared.entry.Act.TheVariants as acts
use Rattle.qs_node_kept.specs.Keeping.{has_label}
use Rattle.qs_book_laws.proofs.Maps.{lookup_put_apart}
use Rattle.qs_book_laws.specs.Gone.{is_answer_to}
use Rattle.qs_node_step.specs.Commands.{with_issued}
use Rattle.qs_tm.specs.Manager as tm
use Rattle.qs_tm.specs.Outcomes as outcome_rules
use Rattle.qs_world_lawful.proofs.Apart.{Apart}
use Rattle.qs_world_lawful.proofs.Begins.{label_stays}
use Rattle.qs_world_lawful.proofs.LogKeeps.{map_both}
use Rattle.qs_world_lawful.proofs.OtherShares.{removed_apart}
use Rattle.qs_world_runs.proofs.OwingLeaves.{decided_left}
use Rattle.qs_world_runs.proofs.OwingParts.{WaitsOn, every_each, so_left, so_on, so_still, waits_as, waits_changed}
use Rattle.std.proofs.lemmas.Option.{none-some}

-- an entry that counts nothing and answers nobody
pub record IsSilent (act : Act) : Type 0 where
  pub counts : (tid : Tid) (peer : NodeNo) (number : ℕ) → is_count_of tid peer number act ≡ false
  pub answers : (server : ℕ) → is_answer_to server act ≡ false

-- a request is commanded on where its client's command, its label and the outcomes that are kept stay
pub commanded_as : (a b : Around) (tid : Tid) (request : Outstanding) → ((command : OpenCommand) → command_at (client_of request.issuer) a ≡ Some command → command_at (client_of request.issuer) b ≡ Some command)
    → ((label : List ℕ) (begun : KeptLabel) → find (has_label label) a.labels ≡ Some begun → find (has_label label) b.labels ≡ Some begun) → (find (is_outcome_of tid) a.outcomes ≡ None → find (is_outcome_of tid) b.outcomes ≡ None)
    → IsCommanded a tid request → IsCommanded b tid request
commanded_as a b tid request commands labels outcomes c = record {
  command = c.command;
  there = commands c.command c.there;
  issued = c.issued;
  as_issued = c.as_issued;
  for_it = c.for_it;
  begun = c.begun;
  found = labels c.command.line.label c.begun c.found;
  of = c.of;
  unended = λ own. outcomes (c.unended own);
}

-- no request waits for a command that was not issued as one
pub unissued : (a : Around) (m : Manager) (client : ClientNo) (command : OpenCommand) → command_at client a ≡ Some command → command.issued ≡ None → NotAwaited a m client
unissued a m client command there none tid part known undecided = every_each (λ (request : Outstanding). IsCommanded a tid request → client_of request.issuer ≡ client → ⊥) not_this part.waiting
  where
    not_this : (request : Outstanding) → IsCommanded a tid request → client_of request.issuer ≡ client → ⊥
    not_this request c same = none-some c.issued (sym none ∙ (ap (λ (o : OpenCommand). o.issued) (of_some (sym there ∙ subst (λ (x : ClientNo). command_at x a ≡ Some c.command) same c.there)) ∙ c.as_issued))

pub history_more : (before : List Entry) (n stamp : ℕ) (acts : List Act) (act : Act) → before ++ entries_of n stamp (acts ++ act ∷ []) ≡ (before ++ entries_of n stamp acts) ++ entry_of n stamp act ∷ []
history_more before n stamp acts act = ap (λ (es : List Entry). before ++ es) (map_both n stamp acts (act ∷ [])) ∙ sym (append_assoc before (entries_of n stamp acts) (entry_of n stamp act ∷ []))

module _ (before : List Entry) (stamp : ℕ) where
  abbrev Here : Work → Type 0
  Here work = Amid before stamp work

  abbrev its : Work → Around
  its work = around before stamp work

  -- ---- entries

  pub entered_amid : (act : Act) (work : Work) → IsSilent act → Here work → Here (enter act work)
  entered_amid act work silent = waits_as a b work.node.manager (λ tid part known. so_on a b (entry ∷ []) refl (history_more before a.me.0 stamp work.out.entries act) tid part
      (λ peer open_to. rw (silent.counts tid peer (peer_of part.engage peer).sent) (none (a.me.0 == a.me.0)))
      (λ undecided. every_each (WaitsOn a b tid (entry ∷ [])) (λ request other c. (rw (silent.answers request.issuer.0) refl, commanded_as a b tid request (λ command there. there) (λ label begun found. found) (λ kept. kept) c)) part.waiting))
    where
      a : Around
      a = its work

      b : Around
      b = its (enter act work)

      entry : Entry
      entry = entry_of work.node.setting.node.0 stamp act

      none : (x : Bool) → ((x && false) || false) ≡ false
      none true = refl
      none false = refl

  -- a client is answered for whose command no request waits
  pub answered_amid : (client : ClientNo) (said : Answer) (work : Work) → NotAwaited (its work) work.node.manager client → Here work → Here (answer client said work)
  answered_amid client said work free h = by (lookup (is_at (client_cmp client)) work.node.commands)
    where
      now : OpenCommand → Work
      now command = record work {
        node = record work.node { commands = remove_entry (is_at (client_cmp client)) work.node.commands };
        out = record work.out {
          answers = work.out.answers ++ record { client = client; answer = record { line = command.line.line; answer = said } } ∷ [];
          entries = work.out.entries ++ acts.Answer client command.line.line said ∷ [];
        };
      }

      same : (m k : ℕ) → (m + 32 == k) ≡ true → k - 32 ≡ m
      same m k e = grind (arith, nat_tests, e)

      on : (command : OpenCommand) (tid : Tid) (request : Outstanding) → (IsCommanded (its work) tid request → client_of request.issuer ≡ client → ⊥)
          → WaitsOn (its work) (its (now command)) tid (entry_of work.node.setting.node.0 stamp (acts.Answer client command.line.line said) ∷ []) request
      on command tid request other away c = (none (client_no client.0 == request.issuer.0) refl, commanded_as (its work) (its (now command)) tid request (λ o there. still (same_client_or client (client_of request.issuer)) o there) (λ label begun found. found) (λ kept. kept) c)
        where
          none : (b : Bool) → (client_no client.0 == request.issuer.0) ≡ b → (b || false) ≡ false
          none true is = absurd (other c (ap (λ (k : ℕ). record { 0 = k }) (same client.0 request.issuer.0 is)))
          none false is = refl

          still : (client ≡ client_of request.issuer) ⊎ ((client ≢ client_of request.issuer) × AreApart client (client_of request.issuer)) → (o : OpenCommand) → command_at (client_of request.issuer) (its work) ≡ Some o
              → command_at (client_of request.issuer) (its (now command)) ≡ Some o
          still (inl is) o there = absurd (other c (sym is))
          still (inr far) o there = removed_apart (is_at (client_cmp client)) (is_at (client_cmp (client_of request.issuer))) far.1 work.node.commands ∙ there

      each : (command : OpenCommand) (tid : Tid) (requests : List Outstanding) → Every (λ (request : Outstanding). IsCommanded (its work) tid request → client_of request.issuer ≡ client → ⊥) requests
          → Every (WaitsOn (its work) (its (now command)) tid (entry_of work.node.setting.node.0 stamp (acts.Answer client command.line.line said) ∷ [])) requests
      each command tid [] all = tt
      each command tid (request ∷ more) all = (on command tid request all.0, each command tid more all.1)

      none_counted : (x : Bool) → ((x && false) || false) ≡ false
      none_counted true = refl
      none_counted false = refl

      by : (o : Option OpenCommand) → Here (elim o [ None ↦ work | Some command ↦ now command ])
      by None = h
      by (Some command) = waits_as (its work) (its (now command)) work.node.manager (λ tid part known. so_on (its work) (its (now command)) (entry_of work.node.setting.node.0 stamp (acts.Answer client command.line.line said) ∷ []) refl
          (history_more before work.node.setting.node.0 stamp work.out.entries (acts.Answer client command.line.line said)) tid part (λ peer open_to. none_counted (work.node.setting.node.0 == work.node.setting.node.0)) (λ undecided. each command tid part.waiting (free tid part known undecided))) h

  -- ---- labels and outcomes

  pub labelled_amid : (begun : KeptLabel) (work : Work) → Here work → Here (put_label begun work)
  labelled_amid begun work = waits_as a b work.node.manager (λ tid part known. so_still a b refl refl tid part (λ undecided. every_each (λ (request : Outstanding). IsCommanded a tid request → IsCommanded b tid request)
      (λ request. commanded_as a b tid request (λ command there. there) (λ label was found. label_stays label begun work.node.kept.now.labels was found) (λ kept. kept)) part.waiting))
    where
      a : Around
      a = its work

      b : Around
      b = its (put_label begun work)

  find_none : (test : Decided → Bool) (ds : List Decided) (d : Decided) → test d ≡ false → find test ds ≡ None → find test (ds ++ d ∷ []) ≡ None
  find_none test [] d other none = rw other refl
  find_none test (x ∷ ds) d other none = by (test x) none (find_none test ds d other)
    where
      by : (b : Bool) → (if b then Some x else find test ds) ≡ None → (find test ds ≡ None → find test (ds ++ d ∷ []) ≡ None) → (if b then Some x else find test (ds ++ d ∷ [])) ≡ None
      by true e rest = absurd (cc e)
      by false e rest = rest e

  -- it is decided, and its outcome kept
  pub decided_amid : (tid : Tid) (outcome : Outcome) (cause : Option Cause) (work : Work) → Here work → Here (keep_outcome tid outcome cause (with_manager (tm.decide tid outcome) work))
  decided_amid tid outcome cause work = waits_changed a b tid (outcome_rules.decided outcome) work.node.manager others own
    where
      a : Around
      a = its work

      b : Around
      b = its (keep_outcome tid outcome cause (with_manager (tm.decide tid outcome) work))

      d : Decided
      d = record { tid = tid; outcome = outcome; cause = cause }

      others : (t : Tid) (p : Participant) → Apart tid t → tm.part_of t work.node.manager ≡ Some p → StandsSo a t p → StandsSo b t p
      others t p far known = so_still a b refl refl t p (λ undecided. every_each (λ (request : Outstanding). IsCommanded a t request → IsCommanded b t request)
          (λ request. commanded_as a b t request (λ command there. there) (λ label begun found. found) (λ kept. find_none (is_outcome_of t) work.node.kept.now.outcomes d far.of kept)) p.waiting)

      own : (p : Participant) → tm.part_of tid work.node.manager ≡ Some p → StandsSo a tid p → StandsSo b tid (outcome_rules.decided outcome p)
      own p known s = let t : StandsSo a tid (outcome_rules.decided outcome p) = so_left (outcome_rules.decided outcome) (decided_left outcome) a tid p s in record { uncounted = t.uncounted; awaited = λ undecided. absurd (cc undecided) }

  -- ---- commands

  -- one comes of a client that has none in hand
  pub opened_amid : (line : ScriptLine) (work : Work) → command_at line.client (its work) ≡ None → Here work → Here (with_command line work)
  opened_amid line work free = waits_as a b work.node.manager (λ tid part known. so_still a b refl refl tid part (λ undecided. every_each (λ (request : Outstanding). IsCommanded a tid request → IsCommanded b tid request) (on tid) part.waiting))
    where
      a : Around
      a = its work

      b : Around
      b = its (with_command line work)

      on : (tid : Tid) (request : Outstanding) → IsCommanded a tid request → IsCommanded b tid request
      on tid request c = commanded_as a b tid request (λ command there. by (same_client_or line.client (client_of request.issuer)) command there) (λ label begun found. found) (λ kept. kept) c
        where
          by : (line.client ≡ client_of request.issuer) ⊎ ((line.client ≢ client_of request.issuer) × AreApart line.client (client_of request.issuer)) → (command : OpenCommand) → command_at (client_of request.issuer) a ≡ Some command
              → command_at (client_of request.issuer) b ≡ Some command
          by (inl is) command there = absurd (no (sym free ∙ subst (λ (x : ClientNo). command_at x a ≡ Some command) (sym is) there))
            where
              no : None ≡ Some command → ⊥
              no e = cc e
          by (inr far) command there = put_apart line.client (client_of request.issuer) (record { line = line; issued = None }) far.0 work.node.commands ∙ there
            where
              put_apart : (c k : ClientNo) (o : OpenCommand) → c ≢ k → (es : List (ClientNo × OpenCommand)) → lookup (is_at (client_cmp k)) (insert_entry client_cmp es c o) ≡ lookup (is_at (client_cmp k)) es
              put_apart c k o differ es = lookup_put_apart client_cmp c o (λ x e. client_exact c x (rw e refl)) (is_at (client_cmp k)) (test (is_at (client_cmp k) c) refl) es
                where
                  test : (t : Bool) → is_at (client_cmp k) c ≡ t → t ≡ false
                  test true is = absurd (differ (sym (client_exact k c is)))
                  test false is = refl

  -- one is issued as a request, for which none waits
  pub issued_amid : (client : ClientNo) (issued : Issued) (work : Work) → NotAwaited (its work) work.node.manager client → Here work → Here (with_issued client issued work)
  issued_amid client issued work free = waits_as a b work.node.manager (λ tid part known. so_still a b refl refl tid part (λ undecided. each tid part.waiting (free tid part known undecided)))
    where
      a : Around
      a = its work

      b : Around
      b = its (with_issued client issued work)

      on : (tid : Tid) (request : Outstanding) → (IsCommanded a tid request → client_of request.issuer ≡ client → ⊥) → IsCommanded a tid request → IsCommanded b tid request
      on tid request other c = commanded_as a b tid request (λ command there. by (same_client_or client (client_of request.issuer)) command there) (λ label begun found. found) (λ kept. kept) c
        where
          by : (client ≡ client_of request.issuer) ⊎ ((client ≢ client_of request.issuer) × AreApart client (client_of request.issuer)) → (command : OpenCommand) → command_at (client_of request.issuer) a ≡ Some command
              → command_at (client_of request.issuer) b ≡ Some command
          by (inl is) command there = absurd (other c (sym is))
          by (inr far) command there = changed_apart (is_at (client_cmp client)) (is_at (client_cmp (client_of request.issuer))) far.1 (λ (o : OpenCommand). record o { issued = Some issued }) work.node.commands ∙ there

      each : (tid : Tid) (requests : List Outstanding) → Every (λ (request : Outstanding). IsCommanded a tid request → client_of request.issuer ≡ client → ⊥) requests → Every (λ (request : Outstanding). IsCommanded a tid request → IsCommanded b tid request) requests
      each tid [] all = tt
      each tid (request ∷ more) all = (on tid request all.0, each tid more all.1)
