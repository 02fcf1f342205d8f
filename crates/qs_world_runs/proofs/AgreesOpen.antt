-- While a loan of a transaction stands at a node, or a vote of it is due there, the machine has no commit of it.
use Rattle.qs_world_runs.proofs.Words.{◌≡◌, ℕ, ◌==◌, ◌&&◌, ◌||◌, not, Bool, true, false, List, [], ◌∷◌, length, Option, Some, None, is_none, is_some, refl, sym, ap, ◌∙◌, arith, if◌then◌else◌, filter, list_any, Tid, same_node, is_standing_loan, Lent, is_lent, Work, is_undecided, needs_pass, Participant, Committed, Aborted, Open, began_here, face_at, outcome_seen, place, Scene, is_engaged, same_flag, where_so, face_is, shown_here, known_sound, nothing_lent, PartSound, is_apart, not-true}
use Rattle.qs_world_runs.proofs.Words.{next_not_zero}
use Rattle.qs_base.specs.declared.identifiers.Outcome.{Outcome}
use Rattle.qs_base.specs.declared.identifiers.Outcome.TheVariants as outcomes
use Rattle.qs_ipc.specs.Ipc as ipc
use Rattle.qs_node_step.specs.State.{part_of}
use Rattle.qs_tm.specs.Outcomes.{is_abort}
use Rattle.qs_world_agree.specs.World as machine
use Rattle.qs_world_refine.specs.Faces.{Face}
use Rattle.qs_world_refine.specs.Sound.{is_idle}
use Rattle.qs_world_refine.specs.Stands.{Stands}
use Rattle.qs_world_refine.proofs.Heads.{aborted_cell, none_engaged}
use Rattle.qs_world_refine.proofs.SoundParts.{and_both}
use Rattle.std.proofs.lemmas.Bool.{and_left}

-- no loan stands where none is counted
none_counted : (t : Tid) (inc : ℕ) (loans : List Lent) → length (filter (is_standing_loan t inc) loans) ≡ 0 → list_any (is_standing_loan t inc) loans ≡ false
none_counted t inc [] none = refl
none_counted t inc (loan ∷ rest) none = by (is_standing_loan t inc loan) none (none_counted t inc rest)
  where
    by : (b : Bool) → length (if b then loan ∷ filter (is_standing_loan t inc) rest else filter (is_standing_loan t inc) rest) ≡ 0 → (length (filter (is_standing_loan t inc) rest) ≡ 0 → list_any (is_standing_loan t inc) rest ≡ false) → (b || list_any (is_standing_loan t inc) rest) ≡ false
    by true some more = absurd (next_not_zero (length (filter (is_standing_loan t inc) rest)) (omega (arith, some)))
    by false none more = more none

module _ (t : Tid) (scene : Scene) (n : ℕ) (work : Work) (v : machine.World) (is : Stands t scene n work v) (committed : v.cell ≡ Committed) where
  abbrev q : ℕ
  q = place n (scene.inc n)

  -- once commit is decided no loan stands
  pub none_lent : is_lent t work.node ≡ false
  none_lent = by (part_of t work) refl
    where
      served_if : Option Participant → Bool
      served_if o = elim o [ None ↦ false | Some p ↦ is_undecided p || is_abort p.outcome ]

      at : (part : Participant) → part_of t work ≡ Some part → (o : Option Outcome) → part.outcome ≡ o → is_lent t work.node ≡ false
      at part known None open_now = none_counted t work.node.setting.inc work.node.kept.now.loans (sym ((shown_here t scene n work v is).running seen).loans ∙ (is.lawful.settled committed).loans q)
        where
          seen : (face_at work.node t).outcome ≡ Open
          seen = ap (λ (f : Face). f.outcome) (face_is t scene n work v is part known) ∙ ap (λ (o : Option Outcome). outcome_seen o (part.engage.home || part.involved)) open_now
      at part known (Some outcomes.Commit) decided = nothing_lent work.node t (ap served_if known ∙ ap (λ (o : Option Outcome). is_none o || is_abort o) decided) is.sound
      at part known (Some outcomes.Abort) decided = absurd (let other : Committed ≡ Aborted = sym committed ∙ aborted_cell t scene n work v is part known decided in cc (other))

      by : (o : Option Participant) → part_of t work ≡ o → is_lent t work.node ≡ false
      by None unknown = nothing_lent work.node t (ap served_if unknown) is.sound
      by (Some part) known = at part known part.outcome refl

  -- nothing is due of what is undecided
  module _ (part : Participant) (known : part_of t work ≡ Some part) (open_now : part.outcome ≡ None) where
    sound : PartSound work.node t part
    sound = known_sound t work.node part known is.sound

    undecided : is_undecided part ≡ true
    undecided = ap (λ (o : Option Outcome). is_none o) open_now

    -- it is not engaged, as the machine has it
    off : (if began_here work.node t then not (is_some part.outcome) else is_some part.engage.superior) ≡ false
    off = sym (ap (λ (f : Face). f.on) (face_is t scene n work v is part known)) ∙ (sym (shown_here t scene n work v is).engaged ∙ none_engaged t scene n work v is committed q)

    home_is : same_node t.home work.node.setting.node ≡ part.engage.home
    home_is = same (same_node t.home work.node.setting.node) part.engage.home sound.homed
      where
        same : (a b : Bool) → same_flag b a ≡ true → a ≡ b
        same true true so = refl
        same false false so = refl
        same true false so = absurd (cc (so))
        same false true so = absurd (cc (so))

    -- a home that is undecided began it in this incarnation
    not_home : part.engage.home ≡ false
    not_home = by part.engage.home refl
      where
        by : (b : Bool) → part.engage.home ≡ b → b ≡ false
        by false away = refl
        by true home = absurd (let on = ap (λ (b : Bool). if b then not (is_some part.outcome) else is_some part.engage.superior) began ∙ ap (λ (o : Option Outcome). not (is_some o)) open_now in let both : true ≡ false = sym on ∙ off in cc (both))
          where
            now : (a b c d : Bool) → a ≡ true → b ≡ true → (not (a && b) || (c && d)) ≡ true → c ≡ true
            now true true true d x y so = refl
            now true true false d x y so = absurd (cc (so))
            now false b c d x y so = absurd (cc (x))
            now true false c d x y so = absurd (cc (y))

            both_so : {a b : Bool} → a ≡ true → b ≡ true → (a && b) ≡ true
            both_so x y = rw (x, y) refl

            began : began_here work.node t ≡ true
            began = both_so (home_is ∙ home) (now part.engage.home (is_undecided part) (t.inc == work.node.setting.inc) _ home undecided sound.began)

    unanswering : is_some part.engage.superior ≡ false
    unanswering = sym (ap (λ (b : Bool). if b then not (is_some part.outcome) else is_some part.engage.superior) later) ∙ off
      where
        later : began_here work.node t ≡ false
        later = and_left (same_node t.home work.node.setting.node) (t.inc == work.node.setting.inc) (home_is ∙ not_home)

    pub none_due : needs_pass part ≡ false
    none_due = not-true (needs_pass part) (and_both (not (is_lent t work.node)) (not (needs_pass part)) (and_both (not (ipc.waits t work.node.queues)) (not (is_lent t work.node) && not (needs_pass part)) idle).1).1
      where
        where_it : (a b : Bool) → a ≡ true → where_so a b ≡ true → b ≡ true
        where_it true b x so = so
        where_it false b x so = absurd (cc (x))

        engaged_off : is_engaged part ≡ false
        engaged_off = ap (λ (b : Bool). if b then is_undecided part else is_some part.engage.superior) not_home ∙ unanswering

        three : {a b c : Bool} → a ≡ false → b ≡ true → c ≡ false → (not a && (b && not c)) ≡ true
        three x y z = rw (x, y, z) refl

        apart : is_apart part ≡ true
        apart = three not_home undecided engaged_off

        idle : is_idle work.node t part ≡ true
        idle = where_it (is_apart part) (is_idle work.node t part) apart sound.idle
