-- A step of a node of a steady world begins: what comes there may come.
use Rattle.qs_world_refine.proofs.Words.{◌≡◌, inl, inr, ℕ, ◌≤◌, ◌<◌, ◌==◌, ◌&&◌, ◌||◌, not, Bool, true, false, List, [], ◌∷◌, Option, Some, None, is_some, refl, sym, subst, arith, nat_lt, nat_tests, ◌⊎◌, list_all, is_at, lookup, tid_cmp, NodeNo, Tid, same_node, Command, Message, names_transaction, was_committed, Work, work_on, Setting, is_abort, Participant, fits, may_command, is_drawn, node_no, began_here, BeginsNew, in_order, where_so, is_past, keeps_commits, is_kept_part, goes_in_run}
use Rattle.qs_world_refine.proofs.Words.{may_take_up, kept_before, is_loan_before, is_label_before, MayHappen, FitsMessage, begun, stage_of, IsSteadyHost, IsSteadyWorld, MachineGives, Stage, IsStage, IsTidyNode, IsTidy, is_tidy_label, is_tidy_loan, is_tidy_command}
use Rattle.std.specs.Prelude.{⊤}
use Rattle.qs_base.specs.declared.identifiers.Outcome.{Outcome}
use Rattle.qs_base.specs.declared.identifiers.Outcome.TheVariants as outcomes
use Rattle.qs_book_journal.specs.declared.script_line.Command.TheVariants as commands
use Rattle.qs_packet.specs.declared.message.Message.TheVariants as messages
use Rattle.qs_node_step.specs.declared.event.Event.{Event}
use Rattle.qs_node_step.specs.declared.event.Event.TheVariants as events
use Rattle.qs_tm.specs.Manager as tm
use Rattle.qs_world.specs.World.{World}
use Rattle.qs_world_refine.proofs.Forgetting.{none_behind}
use Rattle.qs_world_refine.proofs.SoundCount.{all_at}
use Rattle.qs_world_refine.proofs.SoundParts.{and_both, both_and}
use Rattle.qs_world_refine.proofs.SteadyGrows.{stage_is}
use Rattle.qs_world_refine.proofs.TidyHappens.{MayComeOn, fresh_next}
use Rattle.qs_world_refine.proofs.TidyResumes.{resume_tidy}

-- ---- what is said of each transaction that is known is said of each entry

order_tail : (e : Tid × Participant) (es : List (Tid × Participant)) → in_order (e ∷ es) ≡ true → in_order es ≡ true
order_tail e [] is = refl
order_tail e (next ∷ rest) is = (and_both (Rattle.qs_world_refine.specs.Sound.is_less (tid_cmp e.0 next.0)) (in_order (next ∷ rest)) is).1

pub all_known : (q : Tid × Participant → Bool) (es : List (Tid × Participant)) → in_order es ≡ true → ((t : Tid) (part : Participant) → lookup (is_at (tid_cmp t)) es ≡ Some part → q (t, part) ≡ true) → list_all q es ≡ true
all_known q [] ordered each = refl
all_known q (e ∷ es) ordered each = both_and (q e) (list_all q es) (each e.0 e.1 here) (all_known q es (order_tail e es ordered) rest)
  where
    self : (t : Tid) → is_at (tid_cmp t) t ≡ true
    self t = grind (arith, nat_tests)

    here : lookup (is_at (tid_cmp e.0)) (e ∷ es) ≡ Some e.1
    here = rw (self e.0) refl

    equal : (t u : Tid) → is_at (tid_cmp t) u ≡ true → t ≡ u
    equal t u is = Rattle.qs_world_refine.proofs.SoundKnown.same_is t u (grind (arith, nat_tests, is))

    none : lookup (is_at (tid_cmp e.0)) es ≡ None
    none = none_behind e.0 e es ordered (inl (grind (arith, nat_tests)))

    rest : (t : Tid) (part : Participant) → lookup (is_at (tid_cmp t)) es ≡ Some part → q (t, part) ≡ true
    rest t part found = by (is_at (tid_cmp t) e.0) refl
      where
        by : (b : Bool) → is_at (tid_cmp t) e.0 ≡ b → q (t, part) ≡ true
        by true is = absurd (let gone : lookup (is_at (tid_cmp t)) es ≡ None = subst (λ (u : Tid). lookup (is_at (tid_cmp u)) es ≡ None) (sym (equal t e.0 is)) none in cc (gone, found))
        by false is = each t part (rw is found)

-- ---- a step begins

module _ (world : World) (steady : IsSteadyWorld world) (n free : ℕ) (low : n < world.size) (up : world.channels.up n ≡ true) where
  abbrev pub c : Stage
  c = stage_of world n

  host : IsSteadyHost c (world.hosts n)
  host = steady.nodes n low

  pub stage : IsStage c
  stage = stage_is world n low up steady.seated

  pub begun_tidy : IsTidy c (begun (world.hosts n).node free)
  begun_tidy = resume_tidy c stage (work_on (world.hosts n).node free) host.tidy (λ first tid part known committed. ((host.first first).parts tid part known).committed committed) refl refl

  pub place : c.setting.node ≡ node_no n
  place = steady.seated.node n low

  pub size : c.setting.nodes ≡ world.size
  size = steady.seated.nodes n low

  abbrev first_work : Work
  first_work = begun (world.hosts n).node free

  at_setting : first_work.node.setting ≡ c.setting
  at_setting = begun_tidy.node.setting

  -- what it committed it keeps so
  commits_kept : keeps_commits first_work.node ≡ true
  commits_kept = all_known (is_kept_part first_work.node) first_work.node.manager.known begun_tidy.node.ordered (λ t part known. at t part known (began_here first_work.node t) refl part.outcome refl)
    where
      at : (t : Tid) (part : Participant) → tm.part_of t first_work.node.manager ≡ Some part → (b : Bool) → began_here first_work.node t ≡ b → (o : Option Outcome) → part.outcome ≡ o → where_so (b && (is_some o && not (is_abort o))) (was_committed t first_work.node) ≡ true
      at t part known true here (Some outcomes.Commit) is = begun_tidy.node.crossed.commits t part known here is
      at t part known true here (Some outcomes.Abort) is = refl
      at t part known true here None is = refl
      at t part known false here o is = refl

  -- what began here, and is known no more, was committed
  past_now : (tid : Tid) → c.past tid ≡ true → is_past first_work.node tid ≡ true
  past_now tid past = by (began_here first_work.node tid) refl (tm.knows tid first_work.node.manager) refl
    where
      other : (a b : Bool) → a ≡ false → (a || b) ≡ true → b ≡ true
      other true b off is = absurd (cc (off))
      other false b off is = is

      number : began_here first_work.node tid ≡ true → (names_transaction tid ≡ true) × (tid.seq ≤ first_work.node.manager.begun)
      number here =
          let both : (same_node tid.home first_work.node.setting.node ≡ true) × ((tid.inc == first_work.node.setting.inc) ≡ true) = and_both (same_node tid.home first_work.node.setting.node) _ here in
          let home : same_node tid.home c.setting.node ≡ true = subst (λ (s : Setting). same_node tid.home s.node ≡ true) at_setting both.0 in
          let inc : (tid.inc == c.setting.inc) ≡ true = subst (λ (s : Setting). (tid.inc == s.inc) ≡ true) at_setting both.1 in
          let own : (names_transaction tid ≡ true) × ((tid.inc < c.setting.inc) ⊎ ((tid.inc ≡ c.setting.inc) × (tid.seq ≤ c.count))) = stage.own tid past home in
          (own.0, subst (λ (k : ℕ). tid.seq ≤ k) (sym begun_tidy.node.count) (lower inc own.1))
        where
          lower : (tid.inc == c.setting.inc) ≡ true → ((tid.inc < c.setting.inc) ⊎ ((tid.inc ≡ c.setting.inc) × (tid.seq ≤ c.count))) → tid.seq ≤ c.count
          lower same (inl less) = absurd (grind (arith, nat_tests, same, less))
          lower same (inr given) = given.1

      by : (a : Bool) → began_here first_work.node tid ≡ a → (b : Bool) → tm.knows tid first_work.node.manager ≡ b → where_so (a && not b) (was_committed tid first_work.node) ≡ true
      by false here b knows = refl
      by true here true knows = refl
      by true here false knows = let its : (names_transaction tid ≡ true) × (tid.seq ≤ first_work.node.manager.begun) = number here in
          other (tm.knows tid first_work.node.manager) (was_committed tid first_work.node) knows (begun_tidy.node.crossed.pasts tid here its.0 its.1)

  -- ---- what comes may come

  goes : (command : Command) → may_command c.setting.nodes command ≡ true → goes_in_run c.setting.nodes command ≡ true
  goes commands.Begin is = refl
  goes commands.Commit is = refl
  goes commands.Abort is = refl
  goes commands.Take is = refl
  goes commands.Yield is = refl
  goes (commands.Request member op) is = (and_both (nat_lt member.node.0 c.setting.nodes) _ is).0

  low_home : (tid : Tid) → c.begun tid ≡ true → tid.home.0 < 16
  low_home tid begun =
      let in_run : nat_lt tid.home.0 c.setting.nodes ≡ true = (stage.inside tid begun).1 in
      let at : nat_lt tid.home.0 world.size ≡ true = subst (λ (k : ℕ). nat_lt tid.home.0 k ≡ true) size in_run in
      let small : world.size ≤ 16 = steady.seated.small in grind (arith, nat_tests, at, small)

  message_may : (peer : NodeNo) (message : Message) → fits c.past c.begun c.setting.nodes peer c.setting.node message ≡ true → MachineGives (events.Received peer message) first_work → FitsMessage peer message first_work
  message_may peer messages.Hello fit gives = tt
  message_may peer (messages.Request tid label member number issuer op) fit gives = (past_now tid (stage.inside tid (and_both (c.begun tid) _ fit).0).0, gives)
  message_may peer (messages.Answered tid member number reply) fit gives = tt
  message_may peer (messages.AskVote tid) fit gives = tt
  message_may peer (messages.Covered tid up_to) fit gives = (low_home tid fit, gives)
  message_may peer (messages.VotedYes tid up_to told) fit gives =
      let both : (c.begun tid ≡ true) × (list_all (is_drawn c.setting.nodes tid) told ≡ true) = and_both (c.begun tid) _ fit in
      (low_home tid both.0, (λ k named. subst (λ (s : Setting). nat_lt k s.nodes ≡ true) (sym at_setting) (and_both (nat_lt k c.setting.nodes) _ (all_at (is_drawn c.setting.nodes tid) told k both.1 named)).0, gives))
  message_may peer (messages.VotedAbort tid cause) fit gives = tt
  message_may peer (messages.Tell tid outcome) fit gives = gives
  message_may peer (messages.Told tid further) fit gives = commits_kept
  message_may peer (messages.Inquire tid) fit gives = tt

  -- of another node of the run, where something is on its way
  pub record FromOther (peer : NodeNo) : Type 0 where
    pub in_run : nat_lt peer.0 c.setting.nodes ≡ true
    pub other : same_node peer c.setting.node ≡ false

  -- what an event says where it comes
  abbrev pub ComesFit : Event → Type 0
  ComesFit (events.Command client line label command) = may_command c.setting.nodes command ≡ true
  ComesFit (events.Received peer message) = FromOther peer × ((c.met peer ≡ true) × (fits c.past c.begun c.setting.nodes peer c.setting.node message ≡ true))
  ComesFit events.ServeAll = ⊤
  ComesFit (events.PeerRestarted peer old new) = nat_lt peer.0 c.setting.nodes ≡ true
  ComesFit events.Tick = ⊤

  pub comes_may : (event : Event) → ComesFit event → MachineGives event first_work → MayHappen event first_work
  comes_may (events.Command client line label command) fit gives = (subst (λ (s : Setting). goes_in_run s.nodes command ≡ true) (sym at_setting) (goes command fit), begun_tidy.node.crossed.owned)
  comes_may (events.Received peer message) fit gives = (
    subst (λ (s : Setting). nat_lt peer.0 s.nodes ≡ true) (sym at_setting) fit.0.in_run,
    (subst (λ (s : Setting). same_node peer s.node ≡ false) (sym at_setting) fit.0.other, message_may peer message fit.1.1 gives),
  )
  comes_may events.ServeAll fit gives = tt
  comes_may (events.PeerRestarted peer old new) fit gives = subst (λ (s : Setting). nat_lt peer.0 s.nodes ≡ true) (sym at_setting) fit
  comes_may events.Tick fit gives = tt

  pub comes_on : (event : Event) → ComesFit event → MayComeOn c stage event
  comes_on (events.Command client line label command) fit = fit
  comes_on (events.Received peer message) fit = fit.1
  comes_on events.ServeAll fit = tt
  comes_on (events.PeerRestarted peer old new) fit = tt
  comes_on events.Tick fit = tt

  -- the number that comes next is new
  next_new : tm.part_of (tm.next_tid first_work.node.manager) first_work.node.manager ≡ None
  next_new = by (tm.part_of (tm.next_tid first_work.node.manager) first_work.node.manager) refl
    where
      fresh : c.past (tm.next_tid first_work.node.manager) ≡ false
      fresh = fresh_next c stage first_work.node begun_tidy.node

      by : (o : Option Participant) → tm.part_of (tm.next_tid first_work.node.manager) first_work.node.manager ≡ o → o ≡ None
      by None none = refl
      by (Some part) known = absurd (
          let its : Rattle.qs_world_refine.specs.Tidy.is_tidy_part c (tm.next_tid first_work.node.manager, part) ≡ true = Rattle.qs_world_refine.proofs.TidyNodes.part_read c first_work.node begun_tidy.node (tm.next_tid first_work.node.manager) part known in
          let past : c.past (tm.next_tid first_work.node.manager) ≡ true = (and_both (c.past (tm.next_tid first_work.node.manager)) _ (and_both (c.past (tm.next_tid first_work.node.manager) && Rattle.qs_world_refine.specs.Sound.same_flag part.engage.home (same_node (tm.next_tid first_work.node.manager).home c.setting.node)) _ its).0).0 in cc (past, fresh))

  pub comes_new : (event : Event) → BeginsNew event first_work
  comes_new (events.Command client line label commands.Begin) = next_new
  comes_new (events.Command client line label commands.Commit) = tt
  comes_new (events.Command client line label commands.Abort) = tt
  comes_new (events.Command client line label commands.Take) = tt
  comes_new (events.Command client line label commands.Yield) = tt
  comes_new (events.Command client line label (commands.Request member op)) = tt
  comes_new (events.Received peer message) = tt
  comes_new events.ServeAll = tt
  comes_new (events.PeerRestarted peer old new) = tt
  comes_new events.Tick = tt
