-- A table of deeds gives the whole rules: each is its deeds, one after another.
use Rattle.qs_world_walk.proofs.Words.{Bool, Event, Later, List, Member, NodeNo, None, Op, Option, Participant, ServerNo, Settles, Some, Stage, Table, Tid, Whole, Work, [], after, become_asked, before, doings_of, during, end_members, false}
use Rattle.qs_world_walk.proofs.Words.{fold, here, issue_as, label_at, listed, next_number, part_of, refl, same_node, subst, sym, true, with_manager, ℕ, ◌∷◌, ◌≡◌}
use Rattle.std.proofs.Common.{is_none}
use Rattle.qs_base_lemmas.proofs.Tests.{none_is}
use Rattle.qs_ops.specs.Server.{vote_of}
use Rattle.qs_ops.specs.declared.operation.Op.TheVariants.{Note}
use Rattle.qs_ops.specs.declared.vote.Vote.{Vote}
use Rattle.qs_engage.specs.Engage.{uncovered}
use Rattle.qs_engage.specs.declared.engage.Engaged.{Engaged}
use Rattle.qs_ipc.specs.declared.delivery.Delivery.{Delivery}
use Rattle.qs_node_servers.specs.Servers.{audit_no, server_at}
use Rattle.qs_node_step.specs.Commands.{enter_ask}
use Rattle.qs_node_step.specs.Serving.{cover_from, engage, is_dropped, learn_label, met, put_label, request_came, take_in}
use Rattle.qs_node_step.specs.Settling.{is_put_off, refusal_goes_to, send_refusal}
use Rattle.qs_node_step.specs.Step.{abort_old}
use Rattle.qs_node_step.specs.Voting.{change_count, due_votes, enter_vote, issue_note, log_vote, note_text, owes_note, vote_frame, vote_next, vote_pass, vote_with}
use Rattle.qs_world_walk.proofs.PassDoings.{due_off, ended_off, vote_off}
use Rattle.qs_world_walk.specs.Deed.{Deed, did}
use Rattle.qs_world_walk.specs.May.{IsLet, IsRequest}
use Rattle.qs_world_walk.specs.When.{When, next_stage, stage_of}
use Rattle.qs_world_walk.specs.Whole.{IsAlone, MayAlone}
use Rattle.qs_base.specs.declared.identifiers.Outcome.TheVariants as outcomes
use Rattle.qs_ops.specs.declared.answer.Cause.TheVariants as causes
use Rattle.qs_ops.specs.declared.vote.Vote.TheVariants as votes
use Rattle.qs_engage.specs.declared.engage.Engaged.TheVariants as engagements
use Rattle.qs_tm.specs.Manager as tm
use Rattle.qs_tm.specs.Members as members
use Rattle.qs_packet.specs.declared.message.Message.TheVariants as messages
use Rattle.qs_node_step.specs.declared.event.Event.TheVariants as events
use Rattle.qs_world_walk.proofs.First as first
use Rattle.qs_world_walk.proofs.Rules as rules
use Rattle.qs_world_walk.proofs.Shapes as shapes
use Rattle.qs_world_walk.proofs.ToldDeeds as told
use Rattle.qs_world_walk.specs.Deed as d
use Rattle.qs_world_walk.specs.May as may

module _ (event : Event) (I : Stage → Work → Type 0) (k : Table event I) where
  abbrev P : Work → Type 0
  P work = I after work

  abbrev Keeps : Work → Work → Type 0
  Keeps work new = P work → P new

  module _ (tid : Tid) where
    abbrev T : Work → Type 0
    T work = I (during (Settles tid)) work

    vote_next_keeps : (work : Work) (server : ServerNo) → is_put_off (doings_of tid work) ≡ false → T work → T (vote_next tid work server)
    vote_next_keeps work server off = shapes.if_keeps T (owes_note tid server work) (issue_note tid work.node.setting.audit work) (vote_with tid server ballot work) work (λ owes. note owes work.node.setting.audit refl) (λ noted. voted noted ballot refl)
      where
        ballot : Vote
        ballot = vote_of (server_at work.node.servers server) tid work.room (vote_frame work)

        note : owes_note tid server work ≡ true → (o : Option NodeNo) → work.node.setting.audit ≡ o → T work → T (issue_note tid o work)
        note owes None is = λ h. h
        note owes (Some node) is = let member : Member = record { node = node; server = audit_no } in let op : Op = Note (note_text tid (here work) (change_count tid work.node)) in
            shapes.elim_keeps T (next_number tid node work) work (λ number. issue_as tid (record { issuer = members.files_no; member = member; number = number; count = change_count tid work.node }) op work) work (λ none h. h)
            (λ number next. rules.issue_as_keeps event I k (d.Files server) tid (record { issuer = members.files_no; member = member; number = number; count = change_count tid work.node }) op tt work next (owes, (off, (is, (refl, (refl, refl))))))

        voted : owes_note tid server work ≡ false → (b : Vote) → ballot ≡ b → T work → T (log_vote b tid server (enter_vote tid server b work))
        voted noted (votes.Abort reason) is = k (d.Votes tid server (votes.Abort reason)) tt work (tt, record { due = off; noted = noted; is = is })
        voted noted votes.ReadOnly is = k (d.Votes tid server votes.ReadOnly) tt work (tt, record { due = off; noted = noted; is = is })
        voted noted votes.Volatile is = k (d.Votes tid server votes.Volatile) tt work (tt, record { due = off; noted = noted; is = is })
        voted noted votes.Recoverable is = k (d.Prepares tid server) tt work (record { due = off; noted = noted; is = is })

    votes_keep : (servers : List ServerNo) (work : Work) → is_put_off (doings_of tid work) ≡ false → T work → T (fold (vote_next tid) work servers)
    votes_keep [] work off h = h
    votes_keep (server ∷ servers) work off h = votes_keep servers (vote_next tid work server) (vote_off tid work server off) (vote_next_keeps work server off h)

    pass_keeps : (work : Work) → is_put_off (doings_of tid work) ≡ false → T work → T (vote_pass tid work)
    pass_keeps work off h = votes_keep (due_votes tid work) (end_members tid work) (ended_off tid work off) (first.ended_keeps event I k (Later true) tid work h)

  asked_keeps : (tid : Tid) (part : Participant) (work : Work) → P (with_manager (tm.ask tid) work) → P (become_asked tid part work)
  asked_keeps tid part work = first.send_each_keeps event I k after (listed (uncovered part.engage)) (messages.AskVote tid) (with_manager (tm.ask tid) work) (λ w to. tt)

  request_keeps : (peer : NodeNo) (tid : Tid) (label : List ℕ) (member : Member) (number : ℕ) (issuer : ServerNo) (op : Op) (work : Work) → event ≡ events.Received peer (messages.Request tid label member number issuer op)
      → I before work → P (request_came peer tid label member number op work)
  request_keeps peer tid label member number issuer op work is h = by (is_dropped (same_node tid.home (here work)) (part_of tid work))
    where
      its : IsRequest event peer tid label member number op
      its = record { issuer = issuer; is = is }

      F : Work → Type 0
      F w = I before w

      labelled : Work
      labelled = learn_label label tid work

      knows : F labelled
      knows = shapes.if_keeps F (is_none (label_at label work.node)) (put_label (record { label = label; tid = Some tid; owner = None }) work) work work
          (λ new. k (d.Labels label tid) tt work (none_is (label_at label work.node) new, (peer, (member, (number, (op, its)))))) (λ known h. h) h

      meets : F (met tid labelled)
      meets = shapes.if_keeps F (same_node tid.home (here labelled)) labelled (with_manager (tm.meet tid) labelled) labelled (λ home h. h)
          (λ away. k (d.Meets tid) tt labelled (away, (peer, (label, (member, (number, (op, its))))))) knows

      cover : (e : Engaged) (w : Work) → F w → F (cover_from e tid peer number w)
      cover engagements.Superior w h = h
      cover engagements.Elsewhere w h = first.send_keeps event I k before peer (messages.Covered tid number) w (label, (member, (op, its))) h

      engaged : Work
      engaged = engage tid peer number labelled

      kept : F engaged
      kept = cover (tm.engaged_at tid peer (met tid labelled).node.manager) (with_manager (tm.requested tid peer number) (met tid labelled)) (k (d.Engages tid peer number) tt (met tid labelled) (label, (member, (op, its))) meets)

      delivery : Delivery
      delivery = record { tid = tid; from = peer; number = number; op = op; stale = false }

      by : (b : Bool) → P (take_in b member delivery engaged)
      by true = k d.Lets tt engaged (subst IsLet (sym is) tt) kept
      by false = rules.waiting_is P member.server delivery engaged (k (d.TakesIn peer tid member number op) tt engaged (label, its) kept)

  alone : (deed : Deed) (when : When deed) (work : Work) → IsAlone deed → MayAlone event deed work → I (stage_of deed when) work → I (next_stage deed when) (did deed work)
  alone (d.Sends to (messages.Inquire tid)) when work is m h = k (d.Sends to (messages.Inquire tid)) when work tt h
  alone (d.Sends to (messages.VotedAbort tid cause)) when work is m h = k (d.Sends to (messages.VotedAbort tid cause)) when work tt h
  alone (d.Sends to message) when work is m h = absurd m
  alone deed when work is m h = k deed when work m h

  -- the limit stays, so what is old is aborted by it, one after another
  module _ (age : ℕ) where
    abbrev Limited : Stage → Work → Type 0
    Limited stage work = I stage work × (work.node.setting.age ≡ Some age)

    limited_table : Table event Limited
    limited_table d.Lets when work m h = (k d.Lets when work m h.0, h.1)
    limited_table deed when work m h = (k deed when work m h.0, h.1)

  ages_keep : (age : ℕ) (work : Work) → event ≡ events.Tick → work.node.setting.age ≡ Some age → P work → P (fold (abort_old age) work (tm.aged age work.node.manager))
  ages_keep age work is limit h = (shapes.fold_keeps (Limited age after) (abort_old age)
      (λ w tid both. rules.decided_keeps event (Limited age) (limited_table age) tid outcomes.Abort (Some (causes.Old age)) false w (may.Old age is both.1 refl) both) (tm.aged age work.node.manager) work (h, limit)).0

  pub whole_of : Whole event I
  whole_of = record {
    does = alone;
    resumes = λ tid part outcome work known is. first.resumed_keeps event I k tid part outcome work;
    decides = rules.decided_keeps event I k;
    passes = λ tid part work running due. pass_keeps tid work (due_off tid part work due);
    tells = told.tell_keeps event I k;
    inquired = told.inquiry_keeps event I k;
    notices = told.notice_keeps event I k;
    ages = ages_keep;
    asked = λ peer tid part work may running h. asked_keeps tid part work (k (d.BecomesAsked peer tid) tt work may h);
    asks = λ line tid part work may h. asked_keeps tid part (enter_ask tid work) (k (d.Asks line tid) tt work (may.came, (may.there, (may.commit, (may.met, (may.undecided, (part, (may.running, may.first))))))) h);
    issues = rules.issue_as_keeps event I k;
    requests = request_keeps;
    names = told.names_keeps event I k;
    refuses = λ tid part work running away h. shapes.fold_keeps (T tid) (send_refusal tid (refusal_goes_to tid part)) (λ w cause. first.send_keeps event I k (during (Settles tid)) (refusal_goes_to tid part) (messages.VotedAbort tid cause) w tt) part.causes (with_manager (tm.take_causes tid) work)
        (k (d.TakesCauses tid) tt work (part, (running, away)) h);
  }
