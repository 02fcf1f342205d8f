-- What a request makes of the course: by the owner of the transaction, or on a loan of it.
use Rattle.std.proofs.Common.{◌≡◌, ◌∙◌, ℕ, ◌-◌, ◌==◌, Bool, true, false, List, [], ◌∷◌, Option, Some, None, inl, inr, refl, sym, ap, subst, arith}
use Rattle.std.specs.Prelude.{◌⊎◌, is_some, if◌then◌else◌}
use Rattle.std.specs.Cmp.{IsTotalOrder}
use Rattle.std.proofs.lemmas.Bool.Decides.{nat_tests}
use Rattle.std.proofs.lemmas.Cmp.{nat_cmp_total, on_total, then_total, tied_itself}
use Rattle.std.specs.BTreeMap.{insert_entry, is_at}
use Rattle.std.specs.Map.{lookup}
use Rattle.qs_base.specs.Order.{member_cmp}
use Rattle.qs_base.specs.declared.identifiers.ClientNo.{ClientNo}
use Rattle.qs_base.specs.declared.identifiers.Member.{Member}
use Rattle.qs_base.specs.declared.identifiers.ServerNo.{ServerNo}
use Rattle.qs_base.specs.declared.identifiers.Tid.{Tid}
use Rattle.qs_base.proofs.TidOrder.{tid_total}
use Rattle.qs_base_lemmas.proofs.Tests.{some_same}
use Rattle.qs_ops.specs.Servers.{client_no, files_no, is_client_no}
use Rattle.qs_ops.specs.declared.operation.Op.{Op}
use Rattle.qs_ops.specs.declared.reply.Reply.{Reply}
use Rattle.qs_book_journal.specs.declared.entry.Act.{Act}
use Rattle.qs_book_journal.specs.declared.entry.Act.TheVariants as acts
use Rattle.qs_book_journal.specs.declared.script_line.Command.TheVariants as commands
use Rattle.qs_book_journal.specs.declared.script_line.ScriptLine.{ScriptLine}
use Rattle.qs_book_laws.proofs.Maps.{changed_apart, lookup_changed, lookup_put, put_known}
use Rattle.qs_book_machine.specs.Book.{changed_at}
use Rattle.qs_book_conformance.specs.Borrowing.{broken_request}
use Rattle.qs_book_conformance.specs.Course.{CourseValue, sought_cmp}
use Rattle.qs_book_conformance.specs.Effects.{course_after, sought_by, stamped}
use Rattle.qs_book_conformance.specs.Rules.{client_of}
use Rattle.qs_book_conformance.specs.declared.fault.Rule.TheVariants as rules
use Rattle.qs_book_conformance.specs.declared.values.CommandMade.TheVariants as makes
use Rattle.qs_book_conformance.specs.declared.values.Sought.{Sought}
use Rattle.qs_node_kept.specs.declared.kept.Lent.{Lent}
use Rattle.qs_node_step.specs.Answering.{kept_outcome}
use Rattle.qs_node_step.specs.State.{Work, client_cmp}
use Rattle.qs_node_step.specs.declared.state.Issued.{Issued}
use Rattle.qs_node_step.specs.declared.state.OpenCommand.{OpenCommand}
use Rattle.qs_tm.specs.Manager as tm
use Rattle.qs_tm.specs.declared.participant.Outstanding.{Outstanding}
use Rattle.qs_world.specs.Posting.{entry_of}
use Rattle.qs_world_course.specs.Clients.{Commands, ForClients, IsOver, in_hand_of, sought_of}
use Rattle.qs_world_course.specs.Due.{IsOf, Said}
use Rattle.qs_world_course.specs.Going.{LeavesClient}
use Rattle.qs_world_course.specs.Kinds.{broken_said}
use Rattle.qs_world_course.specs.Making.{HasStanding, Says}
use Rattle.qs_world_course.proofs.MadeLaws.{borrower_may_issue, owner_may_issue}
use Rattle.qs_world_course.proofs.Stays.{issues_go}
use Rattle.qs_world_walk.specs.Deed as d
use Rattle.qs_world_walk.specs.Deed.{did, fresh_command}
use Rattle.qs_world_walk.specs.May.{HasLoan, IsMet}
use Rattle.qs_world_said.specs.Amid.{AreAmid, ClientAmid, IsFor, IsSaidSo, clients_of, course_amid, unhanded}
use Rattle.qs_world_said.specs.Deeds.{IsIssuedAs, IssuesAwayKeep, IssuesHereKeep}
use Rattle.qs_world_said.specs.Knows.{KnowsAtStage, KnowsTid}
use Rattle.qs_world_said.proofs.Answers as answering
use Rattle.qs_world_said.proofs.Frames.{KeepsReplies, goes, of_state, the_others}
use Rattle.qs_world_said.proofs.InHand.{Handed, not_over_lent, not_over_owned, on_course, unmade}
use Rattle.qs_world_said.proofs.Lookups.{far_at}
use Rattle.qs_world_said.proofs.Makes.{changed_amid, changed_there, making}

-- ---- a request

member_total : IsTotalOrder member_cmp
member_total = then_total (on_total (λ (m : Member). m.node.0) nat_cmp_total) (on_total (λ (m : Member). m.server.0) nat_cmp_total)

sought_total : IsTotalOrder sought_cmp
sought_total = then_total (on_total (λ (s : Sought). s.tid) tid_total) (then_total (on_total (λ (s : Sought). s.member) member_total) (then_total (on_total (λ (s : Sought). s.from.0) nat_cmp_total) (on_total (λ (s : Sought). s.number) nat_cmp_total)))

some_of : {X : Type 0} (o : Option X) → is_some o ≡ true → (x : X) × (o ≡ Some x)
some_of None is = absurd (cc is)
some_of (Some x) is = (x, refl)

is_clients : (client : ℕ) → is_client_no (client_no client) ≡ true
is_clients client = grind (arith, nat_tests)

number_back : (client : ℕ) → client_no client - client_no 0 ≡ client
number_back client = omega arith

module _ (stamp : ℕ) (before : CourseValue) (work : Work) (client : ClientNo) (command : OpenCommand) (tid : Tid) (request : Outstanding) (op : Op) (knows : KnowsAtStage (course_amid stamp before work) work.node)
    (i : IsIssuedAs client command tid request op work) (came : Option ClientNo) (mine : IsFor client came) (h : IsSaidSo stamp before came work) where
  abbrev asked : CourseValue
  asked = course_amid stamp before work

  abbrev node : ForClients
  node = clients_of work

  abbrev taken : Handed asked node came client command
  taken = answering.hand stamp before work client command knows i.there came mine h

  abbrev says : Said
  says = answering.s stamp before work client command knows i.there came mine h

  abbrev issued : Issued
  issued = record { tid = tid; member = request.member; number = request.number }

  abbrev sought : Sought
  sought = sought_of node.here issued

  abbrev act_of : Act
  act_of = acts.Issue tid (record { node = node.here; server = request.issuer }) request.member request.number op

  abbrev issues : CourseValue
  issues = course_after asked (entry_of node.here.0 stamp act_of)

  abbrev stamped_only : CourseValue
  stamped_only = stamped stamp node.here.0 asked

  -- by whom
  client_is : client_of (client_no client.0) ≡ client
  client_is = ap (λ (n : ℕ). record { 0 = n }) (number_back client.0)

  abbrev part_of : Bool → ClientNo → CourseValue
  part_of b c = if b then sought_by c sought stamped_only else stamped_only

  all_of : part_of (is_client_no request.issuer.0) (client_of request.issuer.0) ≡ sought_by client sought stamped_only
  all_of = ap (λ (s : ServerNo). part_of (is_client_no s.0) (client_of s.0)) i.issuer
      ∙ (ap (λ (b : Bool). part_of b (client_of (client_no client.0))) (is_clients client.0) ∙ ap (λ (c : ClientNo). sought_by c sought stamped_only) client_is)

  clients_so : issues.clients ≡ changed_at client.0 (making (makes.Issued sought)) asked.clients
  clients_so = ap (λ (c : CourseValue). c.clients) all_of

  replies_so : issues.replies ≡ insert_entry sought_cmp asked.replies sought []
  replies_so = ap (λ (c : CourseValue). c.replies) all_of

  keeps_replies : KeepsReplies asked issues
  keeps_replies other given there = some_of (lookup (is_at (sought_cmp other)) issues.replies)
      (ap (λ (rs : List (Sought × List Reply)). is_some (lookup (is_at (sought_cmp other)) rs)) replies_so ∙ put_known sought_cmp sought [] (is_at (sought_cmp other)) asked.replies (ap is_some there))

  nothing_made : taken.state.made ≡ makes.Nothing
  nothing_made = by i.uses
    where
      unmade_so : (IsOver client (unhanded node) command.line.label → ⊥) → taken.state.made ≡ makes.Nothing
      unmade_so over = unmade node came client taken.state command taken.amid i.there i.fresh (λ is. absurd (cc (sym i.asks ∙ is))) (λ is. absurd (cc (sym i.asks ∙ is))) over

      by : (IsMet client command true (Some tid) work × (kept_outcome tid work.node ≡ None)) ⊎ (IsMet client command false (Some tid) work × ((loan : Lent) × HasLoan client tid loan work)) → taken.state.made ≡ makes.Nothing
      by (inl (met, none)) = unmade_so (λ over. not_over_owned work client command true tid met over refl none)
      by (inr (met, (loan, has))) = unmade_so (λ over. not_over_lent work client command false tid met over refl loan has)

  said_so : Says says (commands.Request request.member op)
  said_so = record { first = answering.first stamp before work client command knows i.there came mine h; is = i.asks; nothing = nothing_made }

  -- what may be issued
  may : (broken_request asked node.here.0 tid client request.member op) ≡ None
  may = by i.uses
    where
      t : (own : Bool) (met : IsMet client command own (Some tid) work) → KnowsTid asked client command.line.label met.begun tid
      t own met = knows.names.tids client command met.begun tid i.there met.met met.of_is

      of : (own : Bool) (met : IsMet client command own (Some tid) work) → IsOf says own tid (t own met).tx
      of own met = answering.is_of stamp before work client command knows i.there came mine h own met.begun tid met.met met.own_is met.of_is (t own met)

      lent : (met : IsMet client command false (Some tid) work) (loan : Lent) → HasLoan client tid loan work → HasStanding says tid (t false met).tx
      lent met loan has = record {
        of = of false met;
        loans = work.node.kept.now.loans;
        held = answering.has_loans stamp before work client command knows i.there came mine h tid;
        loan = loan;
        last = has.last;
        ungiven = has.kept;
        stands = answering.stands_so stamp before work client command knows i.there came mine h tid (t false met).tx (knows.machine.aborts tid (t false met).tx (t false met).found) loan has.good;
      }

      by : (IsMet client command true (Some tid) work × (kept_outcome tid work.node ≡ None)) ⊎ (IsMet client command false (Some tid) work × ((loan : Lent) × HasLoan client tid loan work)) → broken_request asked node.here.0 tid client request.member op ≡ None
      by (inl (met, none)) = owner_may_issue says tid (t true met).tx request.member op said_so (of true met)
      by (inr (met, (loan, has))) = borrower_may_issue says tid (t false met).tx request.member op said_so (lent met loan has)

  keeps_rule : broken_said asked node.here.0 act_of ≡ None
  keeps_rule = subst (λ (s : ServerNo). (if is_client_no s.0 then broken_request asked node.here.0 tid (client_of s.0) request.member op else if (s.0 == files_no) then None else Some rules.IssuerIsKnown) ≡ None) (sym i.issuer)
      (subst (λ (b : Bool). (if b then broken_request asked node.here.0 tid (client_of (client_no client.0)) request.member op else if (client_no client.0 == files_no) then None else Some rules.IssuerIsKnown) ≡ None) (sym (is_clients client.0))
      (subst (λ (c : ClientNo). broken_request asked node.here.0 tid c request.member op ≡ None) (sym client_is) may))

  -- what is in hand then
  abbrev noted : OpenCommand → OpenCommand
  noted c = record c { issued = Some issued }

  abbrev more : Commands
  more = tm.changed_value (is_at (client_cmp client)) noted work.node.commands

  abbrev then_has : ForClients
  then_has = record node { in_hand = more }

  there_noted : in_hand_of client more ≡ Some (noted command)
  there_noted = lookup_changed (is_at (client_cmp client)) noted work.node.commands command i.there

  others_left : (other : ClientNo) → (client.0 == other.0) ≡ false → LeavesClient other node then_has
  others_left other far = record { here = refl; inc = refl; in_hand = changed_apart (is_at (client_cmp client)) (is_at (client_cmp other)) (far_at client other far) noted work.node.commands; labels = λ label. refl; outcomes = λ another decided is. (decided, is); loans = λ another. refl; last = λ another. refl }

  own_issued : ClientAmid issues then_has None client
  own_issued = of_state issues then_has None client (making (makes.Issued sought) taken.state) (record {
    there = changed_there asked issues client (making (makes.Issued sought)) taken.state clients_so taken.there;
    sits = taken.sits;
    amid = inl (issues_go node more client taken.state.left taken.state command issued (on_course node came client taken.state taken.amid nothing_made) i.there there_noted);
    ungiven = λ given. absurd (cc given);
    idle = λ l at takes. absurd (cc (sym i.asks ∙ (ap (λ (x : ScriptLine). x.command) (some_same (sym taken.first ∙ at)) ∙ takes)));
    waits = λ c other is has. let same : issued ≡ other = some_same (ap (λ (x : OpenCommand). x.issued) (some_same (sym there_noted ∙ is)) ∙ has) in
        subst (λ (j : Issued). (given : List Reply) × (lookup (is_at (sought_cmp (sought_of node.here j))) issues.replies ≡ Some given)) same
        ([], ap (λ (rs : List (Sought × List Reply)). lookup (is_at (sought_cmp sought)) rs) replies_so ∙ lookup_put sought_cmp sought [] (tied_itself sought_total sought) asked.replies);
  })

  issued_amid : AreAmid issues then_has None
  issued_amid = changed_amid asked issues node then_has client (making (makes.Issued sought)) clients_so keeps_replies others_left None (the_others asked node came client mine h.on) own_issued

  pub issues_here_on : IsSaidSo stamp before None (did (d.IssuesHere (d.Client client command) tid request op) work)
  issues_here_on = goes stamp before work (did (d.IssuesHere (d.Client client command) tid request op) work) (act_of ∷ []) refl refl came None h (keeps_rule, tt) issued_amid

  pub issues_away_on : IsSaidSo stamp before None (did (d.IssuesAway (d.Client client command) tid request op) work)
  issues_away_on = goes stamp before work (did (d.IssuesAway (d.Client client command) tid request op) work) (act_of ∷ []) refl refl came None h (keeps_rule, tt) issued_amid

pub issues_here_keep : IssuesHereKeep
issues_here_keep stamp before work client command tid request op knows i came mine h = issues_here_on stamp before work client command tid request op knows i came mine h

pub issues_away_keep : IssuesAwayKeep
issues_away_keep stamp before work client command tid request op knows i came mine h = issues_away_on stamp before work client command tid request op knows i came mine h
