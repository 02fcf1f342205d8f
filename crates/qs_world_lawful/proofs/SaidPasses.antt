-- A vote pass leaves what the log says as the machine has it: a recoverable vote goes with its Prepare, and only files and audit vote so.
use Rattle.qs_world_lawful.proofs.Words.{◌≡◌, ℕ, ◌<◌, ◌++◌, Bool, true, false, List, [], ◌∷◌, length, Option, Some, None, refl, sym, ap, subst, ◌∙◌, fold, nat_lt, if◌then◌else◌, filter, ◌==◌, ◌&&◌, ◌||◌, not, NodeNo, ServerNo, Tid, Entry, Inv, after_both, IsCoherent, keeps_contents, BookValue, IsLawful, book_after, opening, Opened, ServerValue, changes_vote, vote_of, TableValue, has_changes, ServerKind, Vote, Record, ServersValue, server_at, end_member, is_lent, is_pass_due, is_put_off, pass_rule, Work}
use Rattle.qs_world_lawful.proofs.Words.{doings_of, due_votes, issue_note, owes_note, vote_frame, vote_next, vote_pass, vote_with, awaits_note, is_due_at, member_of, needs_pass, servers_due, Participant, HoldsWork, book_at, entries_so_far, MayPass, Lasts, IsNumbered, KeepsLogs, Every}
use Rattle.qs_ipc.specs.Ipc as ipc
use Rattle.qs_ops.specs.Server.{is_logged, names_vote}
use Rattle.qs_ops.specs.Servers as numbers
use Rattle.qs_ops.specs.Table.{least_taken}
use Rattle.qs_ops.specs.declared.server.ServerKind.TheVariants as kinds
use Rattle.qs_ops.specs.declared.vote.Vote.TheVariants as votes
use Rattle.qs_tm.specs.Manager as tm
use Rattle.qs_tm.specs.Members.{all_servers}
use Rattle.qs_tm.specs.declared.participant.Due.TheVariants as dues
use Rattle.qs_world_lawful.specs.Tables.{HoldsKinds}
use Rattle.qs_world_lawful.proofs.Endings.{end_if, endings_are}
use Rattle.qs_world_lawful.proofs.LastsAlways.{always}
use Rattle.qs_world_lawful.proofs.LogEndings.{quiet_end}
use Rattle.qs_world_lawful.proofs.LogKeeps.{lawful_before}
use Rattle.qs_world_lawful.proofs.LogLaws.{inv_is}
use Rattle.qs_world_lawful.proofs.LogSettling.{IsUndecided, one_vote, quiet_note, undecided_on}
use Rattle.qs_world_lawful.proofs.LogVoting.{by_vote_with, quiet_voted}
use Rattle.qs_world_lawful.proofs.Passing.{Passing, files_next, others_next}
use Rattle.qs_world_lawful.proofs.PassingAll.{AreDue, AreOthers, IsApartFrom, due_on, ended_due, ended_passing, others, plain_due, plain_passing, they_are}
use Rattle.qs_world_lawful.proofs.SaidCommits.{lawful_join}
use Rattle.qs_world_lawful.proofs.SaidSteps.{Says, says_if, says_quiet, says_self, says_then}
use Rattle.qs_world_lawful.proofs.SaidVoting.{vote_says}

-- ---- who votes recoverable

module _ (tid : Tid) (room frame : ℕ) where
  names_never : (o : Option (List ℕ)) → names_vote o ≡ votes.Recoverable → ⊥
  names_never None e = cc e
  names_never (Some name) e = cc e

  never : (kind : ServerKind) → is_logged kind ≡ false → (table : TableValue) (b : Bool) → (if b then changes_vote kind table tid room frame else votes.ReadOnly) ≡ votes.Recoverable → ⊥
  never (kinds.Files quota) other table b e = cc other
  never kinds.Audit other table b e = cc other
  never kinds.Names other table true e = names_never (least_taken table tid) e
  never kinds.Timers other table true e = cc e
  never kinds.Windows other table true e = cc e
  never kinds.Scratch other table true e = cc e
  never kinds.Nothing other table true e = cc e
  never kinds.Names other table false e = cc e
  never kinds.Timers other table false e = cc e
  never kinds.Windows other table false e = cc e
  never kinds.Scratch other table false e = cc e
  never kinds.Nothing other table false e = cc e

  never_of : (value : ServerValue) (kind : ServerKind) → value.kind ≡ kind → is_logged kind ≡ false → vote_of value tid room frame ≡ votes.Recoverable → ⊥
  never_of value kind is other e = never value.kind (ap is_logged is ∙ other) value.table (has_changes value.table tid) e

  pub recoverable_keeps : (servers : ServersValue) → HoldsKinds servers → (server : ServerNo) → vote_of (server_at servers server) tid room frame ≡ votes.Recoverable → keeps_contents server.0 ≡ true
  recoverable_keeps servers k server e = by (server.0 == numbers.files_no) (server.0 == numbers.audit_no) (server.0 == numbers.names_no) (server.0 == numbers.timers_no) (server.0 == numbers.windows_no) (server.0 == numbers.scratch_no) e
    where
      by : (a b c d e f : Bool) → vote_of (if a then servers.files else if b then servers.audit else if c then servers.names else if d then servers.timers else if e then servers.windows else if f then servers.scratch else servers.extra) tid room frame ≡ votes.Recoverable → (a || b) ≡ true
      by true b c d e f h = refl
      by false true c d e f h = refl
      by false false true d e f h = absurd (never_of servers.names kinds.Names k.names refl h)
      by false false false true e f h = absurd (never_of servers.timers kinds.Timers k.timers refl h)
      by false false false false true f h = absurd (never_of servers.windows kinds.Windows k.windows refl h)
      by false false false false false true h = absurd (never_of servers.scratch kinds.Scratch k.scratch refl h)
      by false false false false false false h = absurd (never_of servers.extra kinds.Nothing k.extra refl h)

-- ---- what stands in the machine at every time, in the middle of a step

pub lasts_amid : (opened : List Opened) (history : List Entry) → IsCoherent opened → Every IsNumbered opened → IsLawful (opening opened) history → (stamp : ℕ) (work : Work) → IsLawful (book_after (opening opened) history) (entries_so_far stamp work) → Lasts (book_at stamp (book_after (opening opened) history) work)
lasts_amid opened history coherent numbered lawful stamp work entered =
    subst Lasts (after_both history (entries_so_far stamp work) (opening opened)) (always opened (history ++ entries_so_far stamp work) coherent numbered (lawful_join history (entries_so_far stamp work) (opening opened) lawful entered))

module _ (opened : List Opened) (history : List Entry) (coherent : IsCoherent opened) (numbered : Every IsNumbered opened) (lawful_till : IsLawful (opening opened) history) (stamp : ℕ) (disk waiting : List Record) (tid : Tid) where
  abbrev before : BookValue
  before = book_after (opening opened) history

  i : Inv before
  i = inv_is opened history coherent lawful_till

  abbrev Goes : Work → Work → Type 0
  Goes work new = Says stamp before disk waiting work new

  -- ---- one server

  module _ (work : Work) (held : HoldsWork stamp before work) (server : ServerNo) (u : IsUndecided tid work.node.manager) where
    or_true : (b : Bool) → (b || true) ≡ false → ⊥
    or_true true e = cc e
    or_true false e = cc e

    says_recoverable : keeps_contents server.0 ≡ true → Goes work (vote_with tid server votes.Recoverable work)
    says_recoverable keeps = record {
      logs = logs;
      says = λ lawful h s. record {
        all = vote_says before i stamp disk waiting tid server work u.part u.known u.undecided keeps
            (lasts_amid opened history coherent numbered lawful_till stamp work (lawful_before stamp before i disk waiting work (vote_with tid server votes.Recoverable work) logs.more logs.entries logs.setting lawful)) lawful h held.holds s.all;
        on_disk = λ unforced. absurd (or_true work.out.force unforced);
      };
    }
      where
        logs : KeepsLogs stamp before disk waiting work (vote_with tid server votes.Recoverable work)
        logs = by_vote_with stamp before i disk waiting tid server work u.part u.known u.undecided votes.Recoverable

    says_ballot : (ballot : Vote) → (ballot ≡ votes.Recoverable → keeps_contents server.0 ≡ true) → Goes work (vote_with tid server ballot work)
    says_ballot votes.Recoverable keeps = says_recoverable (keeps refl)
    says_ballot votes.ReadOnly keeps = says_quiet stamp before i disk waiting work (vote_with tid server votes.ReadOnly work) (quiet_voted tid server votes.ReadOnly work refl)
    says_ballot votes.Volatile keeps = says_quiet stamp before i disk waiting work (vote_with tid server votes.Volatile work) (quiet_voted tid server votes.Volatile work refl)
    says_ballot (votes.Abort reason) keeps = says_quiet stamp before i disk waiting work (vote_with tid server (votes.Abort reason) work) (quiet_voted tid server (votes.Abort reason) work refl)

    says_next : Goes work (vote_next tid work server)
    says_next = says_if stamp before i disk waiting (owes_note tid server work) work (issue_note tid work.node.setting.audit work) (vote_with tid server (vote_of (server_at work.node.servers server) tid work.room (vote_frame work)) work)
        (λ owes. says_quiet stamp before i disk waiting work (issue_note tid work.node.setting.audit work) (quiet_note stamp before i disk waiting tid work.node.setting.audit work))
        (λ none. says_ballot (vote_of (server_at work.node.servers server) tid work.room (vote_frame work)) (recoverable_keeps tid work.room (vote_frame work) work.node.servers held.holds.servers.kinds server))

    still_undecided : IsUndecided tid (vote_next tid work server).node.manager
    still_undecided = (one_vote stamp before i disk waiting tid work server u).undecided

  -- ---- all of them, files first

  abbrev no : ℕ → ServerNo
  no n = record { 0 = n }

  says_others : (start : Participant) (ss : List ServerNo) → AreOthers ss → (work : Work) (m : Passing stamp before tid work) → IsUndecided tid work.node.manager → AreDue stamp before tid start m ss → Goes work (fold (vote_next tid) work (filter (is_due_at dues.Vote start) ss))
  says_others start [] ok work m u same = says_self stamp before i disk waiting work
  says_others start (s ∷ ss) ok work m u same = by (is_due_at dues.Vote start s) refl (λ w k v alike. says_others start ss ok.3 w k v alike)
    where
      by : (b : Bool) → is_due_at dues.Vote start s ≡ b → ((w : Work) (k : Passing stamp before tid w) → IsUndecided tid w.node.manager → AreDue stamp before tid start k ss → Goes w (fold (vote_next tid) w (filter (is_due_at dues.Vote start) ss)))
          → Goes work (fold (vote_next tid) work (if b then s ∷ filter (is_due_at dues.Vote start) ss else filter (is_due_at dues.Vote start) ss))
      by false is more = more work m u same.1
      by true is more =
          let n = others_next stamp before tid work m s ok.0 (same.0 ∙ is) ok.1 in
          says_then stamp before i disk waiting work (vote_next tid work s) _ (says_next work m.held s u)
          (more (vote_next tid work s) n.after (still_undecided work m.held s u) (due_on stamp before tid start s work (vote_next tid work s) m n.after n.others ss ok.2 same.1))

  says_all : (start : Participant) (work : Work) (m : Passing stamp before tid work) → IsUndecided tid work.node.manager → AreDue stamp before tid start m (no 0 ∷ others stamp before tid start) → awaits_note m.part ≡ false
      → ((to : NodeNo) → work.node.setting.audit ≡ Some to → (nat_lt to.0 work.node.setting.nodes ≡ true) × (to.0 < length m.part.engage.peers)) → Goes work (fold (vote_next tid) work (servers_due dues.Vote start))
  unfolding all_servers
  says_all start work m u same idle audit = by (is_due_at dues.Vote start (no 0)) refl
    where
      far : IsApartFrom (no 0) (others stamp before tid start)
      far = (refl, (refl, (refl, (refl, (refl, (refl, tt))))))

      by : (b : Bool) → is_due_at dues.Vote start (no 0) ≡ b → Goes work (fold (vote_next tid) work (if b then no 0 ∷ filter (is_due_at dues.Vote start) (others stamp before tid start) else filter (is_due_at dues.Vote start) (others stamp before tid start)))
      by false is = says_others start (others stamp before tid start) (they_are stamp before tid start) work m u same.1
      by true is =
          let n = files_next stamp before tid work m (no 0) refl (same.0 ∙ is) idle audit in
          says_then stamp before i disk waiting work (vote_next tid work (no 0)) _ (says_next work m.held (no 0) u)
          (says_others start (others stamp before tid start) (they_are stamp before tid start) (vote_next tid work (no 0)) n.after (still_undecided work m.held (no 0) u)
          (due_on stamp before tid start (no 0) work (vote_next tid work (no 0)) m n.after n.others (others stamp before tid start) far same.1))

  -- ---- the pass, once timers were told

  module _ (work : Work) (h : HoldsWork stamp before work) (part : Participant) (known : tm.part_of tid work.node.manager ≡ Some part) (undecided : part.outcome ≡ None) (asked : part.asked ≡ true) (idle : awaits_note part ≡ false) (given : MayPass stamp before work tid part) where
    u : IsUndecided tid work.node.manager
    u = record { part = part; known = known; undecided = undecided }

    abbrev told : Work
    told = end_member tid work (no 3)

    ended : (b : Bool) → (member_of part (no 3)).fresh ≡ b → Goes work (fold (vote_next tid) (end_if b tid work) (servers_due dues.Vote part))
    ended false fresh = says_all part work (plain_passing stamp before tid work h part known asked idle given) u (plain_due stamp before tid work h part known asked idle given) idle given.audit
    ended true fresh = says_then stamp before i disk waiting work told _ (says_quiet stamp before i disk waiting work told (quiet_end tid work (no 3)))
        (says_all part told (ended_passing stamp before tid work h part known asked idle given fresh) (undecided_on tid work.node.manager told.node.manager (quiet_end tid work (no 3)).knows u) (ended_due stamp before tid work h part known asked idle given fresh) idle given.audit)

    says_pass : Goes work (vote_pass tid work)
    says_pass = subst (λ (w : Work). Goes work (fold (vote_next tid) w (due_votes tid work))) (sym (endings_are tid part work known))
        (subst (λ (ss : List ServerNo). Goes work (fold (vote_next tid) (end_if (member_of part (no 3)).fresh tid work) ss)) (sym (ap (λ (o : Option Participant). elim o [ None ↦ [] | Some p ↦ servers_due dues.Vote p ]) known))
        (ended (member_of part (no 3)).fresh refl))

  pub says_pass_rule : (work : Work) → HoldsWork stamp before work → (part : Participant) → tm.part_of tid work.node.manager ≡ Some part → part.outcome ≡ None → (is_pass_due tid part work ≡ true → MayPass stamp before work tid part) → Goes work (pass_rule tid part work)
  says_pass_rule work h part known undecided given = says_if stamp before i disk waiting (is_pass_due tid part work) work (vote_pass tid work) work
      (λ due. says_pass work h part known undecided (parts due).0 (parts due).1 (given due)) (λ none. says_self stamp before i disk waiting work)
    where
      parts : is_pass_due tid part work ≡ true → (part.asked ≡ true) × (awaits_note part ≡ false)
      parts due = of part.asked (ipc.waits tid work.node.queues) (is_lent tid work.node) (awaits_note part) (needs_pass part) (not (is_put_off (doings_of tid work))) due
        where
          of : (a b c d e f : Bool) → ((a && not (b || (c || d))) && (e && f)) ≡ true → (a ≡ true) × (d ≡ false)
          of true false false false e f is = (refl, refl)
          of true true c d e f is = absurd (cc is)
          of true false true d e f is = absurd (cc is)
          of true false false true e f is = absurd (cc is)
          of false b c d e f is = absurd (cc is)
