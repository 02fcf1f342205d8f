-- Each rule by which a node settles a transaction leaves standing what stood of it.
use Rattle.qs_world_refine.proofs.Words.{◌≡◌, ℕ, ◌+◌, ◌≤◌, ◌==◌, ◌&&◌, ◌||◌, not, Bool, true, false, List, ◌++◌, Option, Some, None, is_some, refl, sym, ap, ◌∙◌, arith, if◌then◌else◌, filter, is_none, is_at, nat_tests, tid_cmp, NodeNo, Tid, release_of, listed, is_no_node, Record, recovery, told_with_own, is_undecided, is_forgotten, only_read, Participant, is_forced, decide_commit, may_answer, is_quiet, pass_rule, ready_rule, answer_superior, say_yes, refusal_goes_to, send_refusal, refuse_elsewhere}
use Rattle.qs_world_refine.proofs.Words.{refuse_rule, forget_rule, try, Work, here, part_of, doings_of, with_manager, forget, node_no, Scene, sight_during, is_in_doubt, where_so, StaysSound, may_doubt, Stands, GoesOn, Goes, or_last, same_Some, not-true}
use Rattle.qs_base.specs.declared.identifiers.Outcome.{Outcome}
use Rattle.qs_packet.specs.declared.message.Message.TheVariants as messages
use Rattle.qs_tm.specs.Manager as tm
use Rattle.qs_tm.specs.Participant as participant
use Rattle.qs_world_agree.specs.World.{World}
use Rattle.qs_world_refine.proofs.During.{Leaves}
use Rattle.qs_world_refine.proofs.Facts.{lawful_on}
use Rattle.qs_world_refine.proofs.Forgetting.{forgotten}
use Rattle.qs_world_refine.proofs.KindsKept.{KeepsKinds, pass_kinds, ready_kinds, refuse_kinds, forget_kinds}
use Rattle.qs_world_refine.proofs.Known.{is_open}
use Rattle.qs_world_refine.proofs.LogFrames.{Apart}
use Rattle.qs_world_refine.proofs.Maps.{lookup_changed}
use Rattle.qs_world_refine.proofs.PassCarried.{Carried, Carries, carries_itself, carries_on, carries_each, carries_send, pass_carries}
use Rattle.qs_world_refine.proofs.PassGoes.{pass_rule_goes}
use Rattle.qs_world_refine.proofs.SettleFrames.{pass_leaves, ready_leaves, refuse_leaves, forget_rule_leaves}
use Rattle.qs_world_refine.proofs.SettleStands.{stands_itself, at_same, its, is_elsewhere, elsewhere, superior_known}
use Rattle.qs_world_refine.proofs.Settles.{ready_elsewhere, refuse_elsewhere_goes, forget_rule_goes}
use Rattle.qs_world_refine.proofs.SoundAnswer.{forget_rule_sound}
use Rattle.qs_world_refine.proofs.SoundParts.{and_both}
use Rattle.qs_world_refine.proofs.SoundSettle.{ready_rule_sound, refuse_rule_sound}
use Rattle.qs_world_refine.proofs.SoundViews.{seen}
use Rattle.qs_world_refine.proofs.SoundVotes.{pass_rule_sound}

-- another transaction, beside which a rule of this one leaves the node's setting
abbrev pub beside : Tid → Tid
beside tid = record tid { seq = tid.seq + 1 }

pub beside_apart : (tid : Tid) → Apart (beside tid) tid
beside_apart tid = grind (arith, nat_tests)

-- a rule, where it is tried
abbrev pub RuleStands : Tid → Scene → ℕ → (Tid → Participant → Work → Work) → Type 0
RuleStands tid scene n rule = (work : Work) (w : World) (part : Participant) → Stands tid scene n work w → part_of tid work ≡ Some part → part.outcome ≡ None → GoesOn tid scene n (rule tid part work) w

module _ (tid : Tid) (scene : Scene) (n : ℕ) where
  pub try_stands : (rule : Tid → Participant → Work → Work) → RuleStands tid scene n rule → (work : Work) (w : World) → Stands tid scene n work w → GoesOn tid scene n (try tid rule work) w
  try_stands rule each work w stands = by (part_of tid work) refl
    where
      picked : (part : Participant) → part_of tid work ≡ Some part → (o : Option Outcome) → part.outcome ≡ o → GoesOn tid scene n (if is_none o then rule tid part work else work) w
      picked part known None undecided = each work w part stands known undecided
      picked part known (Some outcome) decided = stands_itself tid scene n work w stands

      by : (o : Option Participant) → part_of tid work ≡ o → GoesOn tid scene n (elim o [ None ↦ work | Some part ↦ if is_undecided part then rule tid part work else work ]) w
      by None none = stands_itself tid scene n work w stands
      by (Some part) known = picked part known part.outcome refl

  -- ---- what stands after a rule, part by part

  abbrev pub IsClear : Work → Type 0
  IsClear work = may_doubt (tid.home.0 == n) (part_of tid work) ≡ false → (s : ℕ) → is_in_doubt tid s ((sight_during tid scene n work).found n) ≡ false

  abbrev pub Answers : Work → Type 0
  Answers work = (part : Participant) (m : ℕ) → part_of tid work ≡ Some part → part.engage.superior ≡ Some (node_no m) → 1 ≤ scene.knows n m

  pub stands_on : (work new : Work) (w : World) → Stands tid scene n work w → Goes tid scene n new w → Leaves (beside tid) work new → StaysSound work new → KeepsKinds work new → IsClear new → Answers new → GoesOn tid scene n new w
  stands_on work new w is goes left sound kinds clear answers = record {
    next = goes.next;
    leads = goes.leads;
    stands = record {
      at = at_same tid scene n work new left.node.around.setting is.at;
      home_in = is.home_in;
      sound = sound is.sound;
      kinds = kinds is.kinds;
      lawful = lawful_on w goes.next is.lawful goes.leads;
      shown = goes.shown;
      clear = clear;
      superior = answers;
    };
  }

  module _ (work new : Work) (w : World) (is : Stands tid scene n work w) (part : Participant) (known : part_of tid work ≡ Some part) (undecided : part.outcome ≡ None) (carried : Carried tid work new part) where
    pub clear_carried : IsClear new
    clear_carried none s = same_found ∙ is.clear (rw (known, undecided) (carried.unprepared bare).0) s
      where
        bare : carried.next.log.prepared ≡ false
        bare = or_last (is_some carried.next.outcome) carried.next.log.prepared (sym (ap (may_doubt (tid.home.0 == n)) carried.known) ∙ none)

        same_found : is_in_doubt tid s ((sight_during tid scene n new).found n) ≡ is_in_doubt tid s ((sight_during tid scene n work).found n)
        same_found = ap (λ (rs : List Record). is_in_doubt tid s (if n == n then recovery (scene.log n ++ filter is_forced rs) else recovery (scene.log n))) (carried.unprepared bare).1

    pub answers_carried : Answers new
    answers_carried now m its has = is.superior part m known (carried.superior (node_no m) (ap (λ (p : Participant). p.engage.superior) (same_Some carried.next now (sym carried.known ∙ its)) ∙ has))

  -- ---- a vote pass

  pub pass_stands : RuleStands tid scene n pass_rule
  pass_stands work w part is known undecided = stands_on work (pass_rule tid part work) w is
      (pass_rule_goes tid scene n work part w is.lawful is.shown is.at is.sound is.kinds known undecided)
      (pass_leaves (beside tid) tid (beside_apart tid) part work) (pass_rule_sound tid part work known (is_open part undecided)) (pass_kinds tid part work)
      (clear_carried work (pass_rule tid part work) w is part known undecided (pass_carries tid part work part known))
      (answers_carried work (pass_rule tid part work) w is part known undecided (pass_carries tid part work part known))

  -- ---- at another node than the home

  module _ (away : (tid.home.0 == n) ≡ false) (work : Work) (w : World) (part : Participant) (is : Stands tid scene n work w) (known : part_of tid work ≡ Some part) (undecided : part.outcome ≡ None) where
    not_home : part.engage.home ≡ false
    not_home = elsewhere tid scene n work w is part known undecided away

    yes_carries : (superior : NodeNo × ℕ) → Carries tid work (say_yes tid part superior work)
    yes_carries superior = carries_on tid work released (say_yes tid part superior work) releases (carries_send tid superior.0 (messages.VotedYes tid superior.1 (listed (told_with_own (here work) part))) released)
      where
        released : Work
        released = with_manager (tm.released tid) work

        releases : Carries tid work released
        releases part known = record {
          next = participant.released part;
          known = lookup_changed (is_at (tid_cmp tid)) participant.released work.node.manager.known part known;
          outcome = refl;
          superior = λ m has. absurd (cc has);
          unprepared = λ is. (is, refl);
        }

    ready_carries : Carries tid work (ready_rule tid part work)
    ready_carries = by (may_answer tid part work)
      where
        answers : (o : Option (NodeNo × ℕ)) → Carries tid work (elim o [ None ↦ work | Some superior ↦ say_yes tid part superior work ])
        answers None = carries_itself tid work
        answers (Some superior) = yes_carries superior

        by : (b : Bool) → Carries tid work (if b then (if part.engage.home then (if is_quiet (doings_of tid work) then decide_commit tid work else work) else answer_superior tid part work) else work)
        by true = rw not_home (answers (release_of part.engage))
        by false = carries_itself tid work

    pub ready_there : GoesOn tid scene n (ready_rule tid part work) w
    ready_there = stands_on work (ready_rule tid part work) w is
        (ready_elsewhere tid scene n work part w is.lawful is.shown (is_elsewhere tid scene n work w is part known undecided away) (superior_known tid scene n work w is part known undecided))
        (ready_leaves (beside tid) tid (beside_apart tid) part work) (ready_rule_sound tid part work known (is_open part undecided)) (ready_kinds tid part work)
        (clear_carried work (ready_rule tid part work) w is part known undecided (ready_carries part known))
        (answers_carried work (ready_rule tid part work) w is part known undecided (ready_carries part known))

    refuse_carries : Carries tid work (refuse_rule tid part work)
    refuse_carries = rw not_home (carries_on tid work taken (refuse_elsewhere tid part work) takes
        (carries_each tid (send_refusal tid (refusal_goes_to tid part)) (λ work cause. carries_send tid (refusal_goes_to tid part) (messages.VotedAbort tid cause) work) part.causes taken))
      where
        taken : Work
        taken = with_manager (tm.take_causes tid) work

        takes : Carries tid work taken
        takes part known = record {
          next = participant.take_causes part;
          known = lookup_changed (is_at (tid_cmp tid)) participant.take_causes work.node.manager.known part known;
          outcome = refl;
          superior = λ m has. has;
          unprepared = λ is. (is, refl);
        }

    pub refuse_there : GoesOn tid scene n (refuse_rule tid part work) w
    refuse_there = stands_on work (refuse_rule tid part work) w is
        (refuse_elsewhere_goes tid scene n work part w is.shown not_home)
        (refuse_leaves (beside tid) tid (beside_apart tid) part work) (refuse_rule_sound tid part work known (is_open part undecided)) (refuse_kinds tid part work)
        (clear_carried work (refuse_rule tid part work) w is part known undecided (refuse_carries part known))
        (answers_carried work (refuse_rule tid part work) w is part known undecided (refuse_carries part known))

    -- ---- it is forgotten

    gone : part_of tid (forget tid work) ≡ None
    gone = forgotten tid work.node.manager (seen work.node is.sound).ordered

    uninvolved : is_forgotten part ≡ true → part.involved ≡ false
    uninvolved so =
        let parts : ((is_undecided part && not part.engage.home) ≡ true) × (((is_none part.engage.superior && not part.involved) && (is_no_node part.told && only_read part)) ≡ true) = and_both (is_undecided part && not part.engage.home) ((is_none part.engage.superior && not part.involved) && (is_no_node part.told && only_read part)) so in
        let idle : ((is_none part.engage.superior && not part.involved) ≡ true) × ((is_no_node part.told && only_read part) ≡ true) = and_both (is_none part.engage.superior && not part.involved) (is_no_node part.told && only_read part) parts.1 in
        not-true part.involved (and_both (is_none part.engage.superior) (not part.involved) idle.0).1

    unprepared : is_forgotten part ≡ true → part.log.prepared ≡ false
    unprepared so = by part.log.prepared part.involved (uninvolved so)
        (and_both (where_so part.log.prepared part.involved) _ (and_both (where_so (part.log.prepared || part.log.listed) part.log.unended) _ (its tid scene n work w is part known undecided).logged).1).0
      where
        by : (p i : Bool) → i ≡ false → where_so p i ≡ true → p ≡ false
        by true true is so = absurd (cc is)
        by true false is so = absurd (cc so)
        by false i is so = refl

    clear_gone : is_forgotten part ≡ true → IsClear (forget tid work)
    clear_gone so none s = is.clear (rw (known, undecided) (unprepared so)) s

    answers_gone : Answers (forget tid work)
    answers_gone now m its has = absurd (nothing (sym gone ∙ its))
      where
        nothing : None ≡ Some now → ⊥
        nothing e = cc e

    pub forget_there : GoesOn tid scene n (forget_rule tid part work) w
    forget_there = stands_on work (forget_rule tid part work) w is
        (forget_rule_goes tid scene n work part w is.lawful is.shown (is_elsewhere tid scene n work w is part known undecided away) (seen work.node is.sound).ordered)
        (forget_rule_leaves (beside tid) tid (beside_apart tid) part work) (forget_rule_sound tid part work known) (forget_kinds tid part work) (clears (is_forgotten part) refl) (answers (is_forgotten part))
      where
        clears : (b : Bool) → is_forgotten part ≡ b → IsClear (if b then forget tid work else work)
        clears true so = clear_gone so
        clears false so = is.clear

        answers : (b : Bool) → Answers (if b then forget tid work else work)
        answers true = answers_gone
        answers false = is.superior
