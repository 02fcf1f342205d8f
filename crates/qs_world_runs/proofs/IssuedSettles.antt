-- The notes that files issue in a vote pass wait once their transaction is settled: where its own pass is due its node is engaged, and nothing else of a turn issues a request.
use Rattle.qs_world_runs.proofs.Words.{◌≡◌, inl, ℕ, Bool, true, false, List, [], ◌∷◌, fold, Option, Some, None, refl, sym, subst, ◌∙◌, if◌then◌else◌, same_tid, Member, NodeNo, ServerNo, Tid, vote_of, Op, server_at, end_members, issue_as, is_pass_due, pass_rule, settle_tid, try, Work, due_votes, issue_note, owes_note, vote_frame, vote_next, vote_pass, vote_with, is_undecided, Participant, is_sound, same_is, AtEach, note_op, note_request}
use Rattle.qs_node_step.specs.Requests.{next_number}
use Rattle.qs_node_step.specs.State.{part_of}
use Rattle.qs_world_refine.proofs.SoundHolds.{Holds, is_open, open_held}
use Rattle.qs_world_refine.proofs.SoundNotices.{end_members_hold}
use Rattle.qs_world_refine.proofs.SoundVotes.{pass_open, vote_next_holds}
use Rattle.qs_world_lawful.proofs.SameSetting.{ended_same}
use Rattle.qs_world_runs.proofs.AwaitedRules.{fold_on}
use Rattle.qs_world_runs.proofs.AwaitedSettles.{rest_on, settle_on}
use Rattle.qs_world_runs.proofs.AwaitedTurns.{next_vote_on}
use Rattle.qs_world_runs.proofs.IssuedNone.{none_left, none_voted}
use Rattle.qs_world_runs.proofs.IssuedWaits.{IsAway, IsOpenHere, Waited, open_here, still_away, waited_if, waited_issued, waited_none, waited_then}
use Rattle.qs_world_runs.proofs.LeftOutcomes.{ended_leaves}
use Rattle.qs_world_runs.proofs.LeftSteps.{rest_leaves, settle_leaves}
use Rattle.qs_world_runs.proofs.PlacesGo.{beside, is_beside}
use Rattle.qs_world_runs.proofs.StuckRules.{next_keeps}

pub settle_setting : (work : Work) (t : Tid) → (settle_tid work t).node.setting ≡ work.node.setting
settle_setting work t = (settle_leaves (beside t) t (is_beside t) work).setting

module _ (tid : Tid) (issuer member : Member) (number : ℕ) (op : Op) where
  abbrev Goes : Work → Work → Type 0
  Goes work new = Waited tid issuer member number op work new

  abbrev Away : Work → Type 0
  Away work = IsAway member work

  -- ---- its own vote pass

  note_waits : (work : Work) (o : Option NodeNo) → Away work → Holds is_open tid work.node → Goes work (issue_note tid o work)
  note_waits work None away holds = λ has. inl has
  note_waits work (Some node) away holds = by (next_number tid node work)
    where
      here : IsOpenHere tid work
      here = open_here tid work holds.1

      by : (o : Option ℕ) → Goes work (elim o [ None ↦ work | Some k ↦ issue_as tid (note_request tid node k work) (note_op tid work) work ])
      by None = λ has. inl has
      by (Some k) = waited_issued tid issuer member number op (note_request tid node k work) (note_op tid work) work away (record { part = here.part; known = here.known; undecided = here.undecided; engaged = here.engaged; holds = inl refl })

  next_waits : (work : Work) (server : ServerNo) → Away work → Holds is_open tid work.node → Goes work (vote_next tid work server)
  next_waits work server away holds = waited_if tid issuer member number op (owes_note tid server work) (issue_note tid work.node.setting.audit work) voted work (λ owes. note_waits work work.node.setting.audit away holds)
      (λ free. waited_none tid issuer member number op work voted (none_voted tid issuer member number op tid server (vote_of (server_at work.node.servers server) tid work.room (vote_frame work)) work))
    where
      voted : Work
      voted = vote_with tid server (vote_of (server_at work.node.servers server) tid work.room (vote_frame work)) work

  votes_wait : (servers : List ServerNo) (work : Work) → Away work → Holds is_open tid work.node → Goes work (fold (vote_next tid) work servers)
  votes_wait [] work away holds = λ has. inl has
  votes_wait (server ∷ rest) work away holds = waited_then tid issuer member number op work next (fold (vote_next tid) next rest) (next_waits work server away holds)
      (votes_wait rest next (still_away member work next same away) (vote_next_holds tid work server holds)) (fold_on ⊥ tid member number (vote_next tid) (next_vote_on ⊥ tid member number tid) rest next)
    where
      next : Work
      next = vote_next tid work server

      here : IsOpenHere tid work
      here = open_here tid work holds.1

      same : next.node.setting ≡ work.node.setting
      same = (next_keeps tid tid work server here.part here.known).setting

  pass_waits : (work : Work) → Away work → Holds is_open tid work.node → Goes work (vote_pass tid work)
  pass_waits work away holds = waited_then tid issuer member number op work ended (vote_pass tid work) (waited_none tid issuer member number op work ended (none_left tid issuer member number op work ended (ended_leaves tid tid work)))
      (votes_wait (due_votes tid work) ended (still_away member work ended (ended_same tid work) away) (end_members_hold is_open tid open_held (λ server part is. is) work holds))
      (fold_on ⊥ tid member number (vote_next tid) (next_vote_on ⊥ tid member number tid) (due_votes tid work) ended)
    where
      ended : Work
      ended = end_members tid work

  turn_waits : (work : Work) → is_sound work.node ≡ true → Away work → Goes work (try tid pass_rule work)
  turn_waits work sound away = by (part_of tid work) refl
    where
      by : (o : Option Participant) → part_of tid work ≡ o → Goes work (elim o [ None ↦ work | Some part ↦ if is_undecided part then pass_rule tid part work else work ])
      by None none = λ has. inl has
      by (Some part) known = waited_if tid issuer member number op (is_undecided part) (pass_rule tid part work) work work
          (λ undecided. waited_if tid issuer member number op (is_pass_due tid part work) (vote_pass tid work) work work (λ due. pass_waits work away (pass_open tid part work known undecided sound due)) (λ off has. inl has))
          (λ decided has. inl has)

  -- ---- whichever transaction is settled

  own_waits : (work : Work) → is_sound work.node ≡ true → Away work → Goes work (settle_tid work tid)
  own_waits work sound away = waited_then tid issuer member number op work passed (settle_tid work tid) (turn_waits work sound away)
      (waited_none tid issuer member number op passed (settle_tid work tid) (none_left tid issuer member number op passed (settle_tid work tid) (rest_leaves tid tid passed))) (rest_on ⊥ tid member number tid passed)
    where
      passed : Work
      passed = try tid pass_rule work

  settle_waits : (work : Work) (t : Tid) → is_sound work.node ≡ true → Away work → Goes work (settle_tid work t)
  settle_waits work t sound away = by (same_tid t tid) refl
    where
      by : (b : Bool) → same_tid t tid ≡ b → Goes work (settle_tid work t)
      by true same = subst (λ (k : Tid). Goes work (settle_tid work k)) (sym (same_is t tid same)) (own_waits work sound away)
      by false far = waited_none tid issuer member number op work (settle_tid work t) (none_left tid issuer member number op work (settle_tid work t) (settle_leaves tid t far work))

  pub settles_wait : (tids : List Tid) (work : Work) → AtEach (λ (k : Work) (t : Tid). is_sound k.node ≡ true) settle_tid work tids → Away work → Goes work (fold settle_tid work tids)
  settles_wait [] work sound away = λ has. inl has
  settles_wait (t ∷ tids) work sound away = waited_then tid issuer member number op work next (fold settle_tid next tids) (settle_waits work t sound.0 away)
      (settles_wait tids next sound.1 (still_away member work next (settle_setting work t) away)) (fold_on ⊥ tid member number settle_tid (settle_on ⊥ tid member number) tids next)
    where
      next : Work
      next = settle_tid work t

pub settles_setting : (tids : List Tid) (work : Work) → (fold settle_tid work tids).node.setting ≡ work.node.setting
settles_setting [] work = refl
settles_setting (t ∷ tids) work = settles_setting tids (settle_tid work t) ∙ settle_setting work t
