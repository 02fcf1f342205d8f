-- Which rule is the first that does something, by the tests that the rules make.
use Rattle.std.proofs.Common.{◌≡◌, Bool, true, false, not, ◌&&◌, ◌==◌, List, [], ◌∷◌, length, Option, Some, None, if◌then◌else◌, refl, sym, ap, ◌∙◌, arith}
use Rattle.std.proofs.lemmas.Bool.{cond_both, not-true, not-false}
use Rattle.std.proofs.Math.Bool.{and-false}
use Rattle.std.proofs.lemmas.Bool.Decides.{nat_tests}
use Rattle.qs_base.specs.declared.identifiers.Tid.{Tid}
use Rattle.qs_engage.specs.Engage.{is_passive}
use Rattle.qs_node_settling.specs.Firsts.{waits_while_busy, first_of_rest, first_of_ready, first_of_asked, first_of, IsFirst}
use Rattle.qs_node_settling.specs.declared.choosing.First.{First}
use Rattle.qs_node_settling.specs.declared.choosing.First.TheVariants as firsts
use Rattle.qs_node_step.specs.Deciding.{decide_commit}
use Rattle.qs_node_step.specs.Settling.{is_busy, is_put_off, is_quiet, is_pass_due, may_answer, ready, answer_superior, pass_rule, ready_rule, refuse_rule, forget_rule, try}
use Rattle.qs_node_step.specs.State.{Work, part_of, doings_of}
use Rattle.qs_node_step.specs.Voting.{vote_pass}
use Rattle.qs_node_step.specs.declared.state.Doings.{Doings}
use Rattle.qs_tm.specs.Participant.{is_undecided, needs_pass, is_ready, all_agree}
use Rattle.qs_tm.specs.declared.participant.Participant.{Participant}

-- ---- tests

both : (a b : Bool) → a && b ≡ true → (a ≡ true) × (b ≡ true)
both true true e = (refl, refl)
both true false e = absurd cc
both false b e = absurd cc

is_empty : {A : Type 0} (xs : List A) → (length xs == 0) ≡ true → xs ≡ []
is_empty [] e = refl
is_empty (x ∷ xs) e = absurd (grind (arith, nat_tests, e))

unfree : (asked busy : Bool) → busy ≡ true → asked && not busy ≡ false
unfree true busy e = rw e refl
unfree false busy e = refl

unasked : (asked busy : Bool) → asked ≡ false → asked && not busy ≡ false
unasked asked busy e = rw e refl

free_of : (asked busy : Bool) → asked ≡ true → busy ≡ false → asked && not busy ≡ true
free_of asked busy e f = rw e (rw f refl)

not_passing : (free due : Bool) → free ≡ false → free && due ≡ false
not_passing free due e = rw e refl

put_off : (free needs off : Bool) → off ≡ true → free && (needs && not off) ≡ false
put_off true true off e = rw e refl
put_off true false off e = refl
put_off false needs off e = refl

needless : (free needs off : Bool) → needs ≡ false → free && (needs && not off) ≡ false
needless true needs off e = rw e refl
needless false needs off e = refl

passing : (free needs off : Bool) → free ≡ true → needs ≡ true → off ≡ false → free && (needs && not off) ≡ true
passing free needs off e f h = rw e (rw f (rw h refl))

-- not asked, or busy
unready : (asked blocked busy passive agree more : Bool) → asked && not busy ≡ false
    → ((asked && not blocked) && ((not busy && passive) && agree)) && more ≡ false
unready false blocked busy passive agree more e = refl
unready true true busy passive agree more e = refl
unready true false true passive agree more e = refl
unready true false false passive agree more e = absurd cc

-- a pass comes first
held_back : (is_ready needs prepared : Bool) → needs ≡ true → is_ready && (not needs && not prepared) ≡ false
held_back is_ready needs prepared e = rw e (and-false is_ready)

answering : (is_ready : Bool → Bool) (busy needs prepared : Bool) → busy ≡ false → needs ≡ false → is_ready false && not prepared ≡ true
    → is_ready busy && (not needs && not prepared) ≡ true
answering is_ready busy needs prepared e f h = rw e (rw f h)

not_answering : (asks busy passive agree needs prepared : Bool) → needs ≡ false
    → (asks && ((true && passive) && agree)) && not prepared ≡ false
    → (asks && ((not busy && passive) && agree)) && (not needs && not prepared) ≡ false
not_answering false busy passive agree needs prepared e f = refl
not_answering true true passive agree needs prepared e f = refl
not_answering true false passive agree needs prepared e f = rw e f

either : {A : Type 0} (b : Bool) (x y : A) → x ≡ y → (if b then x else y) ≡ y
either true x y e = e
either false x y e = refl

-- ---- the rules, by their tests

-- the transaction is known, and its outcome is not
pub record IsOpen (tid : Tid) (part : Participant) (work : Work) : Type 0 where
  pub known : part_of tid work ≡ Some part
  pub undecided : is_undecided part ≡ true

-- a rule is tried over what is kept of it
tried : (tid : Tid) (rule : Tid → Participant → Work → Work) (part : Participant) (work : Work) → IsOpen tid part work
    → try tid rule work ≡ rule tid part work
tried tid rule part work o =
    ap (λ (found : Option Participant). elim found [ None ↦ work | Some kept ↦ if is_undecided kept then rule tid kept work else work ]) o.known
    ∙ ap (λ (undecided : Bool). if undecided then rule tid part work else work) o.undecided

pass_is : (tid : Tid) (part : Participant) (work : Work) (due : Bool) → IsOpen tid part work → is_pass_due tid part work ≡ due
    → try tid pass_rule work ≡ (if due then vote_pass tid work else work)
pass_is tid part work due o e = tried tid pass_rule part work o ∙ ap (λ (b : Bool). if b then vote_pass tid work else work) e

ready_is : (tid : Tid) (part : Participant) (work : Work) (due : Bool) → IsOpen tid part work → may_answer tid part work ≡ due
    → try tid ready_rule work ≡ (if due then ready tid part work else work)
ready_is tid part work due o e = tried tid ready_rule part work o ∙ ap (λ (b : Bool). if b then ready tid part work else work) e

refuses_none : (tid : Tid) (part : Participant) (work : Work) → IsOpen tid part work → part.engage.home ≡ true → part.causes ≡ []
    → try tid refuse_rule work ≡ work
refuses_none tid part work o home none = tried tid refuse_rule part work o ∙ rw home (rw none refl)

forgets_none : (tid : Tid) (part : Participant) (work : Work) → IsOpen tid part work → part.engage.home ≡ true → try tid forget_rule work ≡ work
forgets_none tid part work o home = tried tid forget_rule part work o ∙ rw o.undecided (rw home refl)

elsewhere : (tid : Tid) (part : Participant) (work : Work) → IsOpen tid part work → part.engage.home ≡ false
    → ready tid part work ≡ try tid answer_superior work
elsewhere tid part work o away =
    ap (λ (b : Bool). if b then (if is_quiet (doings_of tid work) then decide_commit tid work else work) else answer_superior tid part work) away
    ∙ sym (tried tid answer_superior part work o)

at_home : (tid : Tid) (part : Participant) (work : Work) (quiet : Bool) → part.engage.home ≡ true → is_quiet (doings_of tid work) ≡ quiet
    → ready tid part work ≡ (if quiet then decide_commit tid work else work)
at_home tid part work quiet home e = rw home (rw e refl)

-- ---- the first

-- the first, where this is it at a node that is not busy
abbrev FirstOf : Tid → Participant → Work → First → Type 0
FirstOf tid part work first = IsFirst tid work (if waits_while_busy first && is_busy tid work.node part then first_of_rest part else first)

nothing_is : (tid : Tid) (part : Participant) (work : Work) → IsOpen tid part work → try tid pass_rule work ≡ work → try tid ready_rule work ≡ work
    → part.engage.home && (length part.causes == 0) ≡ true → IsFirst tid work firsts.Nothing
nothing_is tid part work o pass ready e =
    let home = both part.engage.home (length part.causes == 0) e in
    (pass, (ready, (refuses_none tid part work o home.0 (is_empty part.causes home.1), forgets_none tid part work o home.0)))

rest_is : (tid : Tid) (part : Participant) (work : Work) → IsOpen tid part work → try tid pass_rule work ≡ work → try tid ready_rule work ≡ work
    → IsFirst tid work (first_of_rest part)
rest_is tid part work o pass ready =
    cond_both (part.engage.home && (length part.causes == 0)) firsts.Nothing firsts.Refusal (IsFirst tid work)
    (nothing_is tid part work o pass ready) (λ e. (pass, ready))

rest_first : (tid : Tid) (part : Participant) (work : Work) → IsOpen tid part work → try tid pass_rule work ≡ work → try tid ready_rule work ≡ work
    → FirstOf tid part work (first_of_rest part)
rest_first tid part work o pass ready =
    cond_both (part.engage.home && (length part.causes == 0)) firsts.Nothing firsts.Refusal (FirstOf tid part work)
    (nothing_is tid part work o pass ready) (λ e. (pass, ready))

-- not asked, or busy
unfree_ready : (tid : Tid) (part : Participant) (work : Work) → IsOpen tid part work → part.asked && not (is_busy tid work.node part) ≡ false
    → (try tid pass_rule work ≡ work) × (try tid ready_rule work ≡ work)
unfree_ready tid part work o e = (
  pass_is tid part work false o (not_passing (part.asked && not (is_busy tid work.node part)) _ e),
  ready_is tid part work false o (unready part.asked part.blocked (is_busy tid work.node part) (is_passive part.engage) (all_agree part) _ e),
)

busy_is : (tid : Tid) (part : Participant) (work : Work) → IsOpen tid part work → is_busy tid work.node part ≡ true → IsFirst tid work (first_of_rest part)
busy_is tid part work o busy =
    let same = unfree_ready tid part work o (unfree part.asked (is_busy tid work.node part) busy) in
    rest_is tid part work o same.0 same.1

-- what waits while the node is busy
free_first : (tid : Tid) (part : Participant) (work : Work) (first : First) → IsOpen tid part work
    → (is_busy tid work.node part ≡ false → IsFirst tid work first)
    → IsFirst tid work (if is_busy tid work.node part then first_of_rest part else first)
free_first tid part work first o free =
    cond_both (is_busy tid work.node part) (first_of_rest part) first (IsFirst tid work) (busy_is tid part work o) free

ready_first : (tid : Tid) (part : Participant) (work : Work) → IsOpen tid part work → try tid pass_rule work ≡ work → needs_pass part ≡ false
    → is_ready false part && not (doings_of tid work).prepared ≡ true → FirstOf tid part work (first_of_ready part (doings_of tid work))
ready_first tid part work o pass done may =
    cond_both (not part.engage.home) firsts.Answer _ (FirstOf tid part work)
    (λ e. free_first tid part work firsts.Answer o (λ free. (pass, answers free ∙ elsewhere tid part work o (not-true part.engage.home e))))
    (λ e. cond_both (is_quiet (doings_of tid work)) firsts.Commit (first_of_rest part) (FirstOf tid part work)
    (λ quiet. free_first tid part work firsts.Commit o (λ free. (pass, answers free ∙ at_home tid part work true (not-false part.engage.home e) quiet)))
    (λ loud. rest_first tid part work o pass (tried tid ready_rule part work o
    ∙ either (may_answer tid part work) (ready tid part work) work (at_home tid part work false (not-false part.engage.home e) loud))))
  where
    answers : is_busy tid work.node part ≡ false → try tid ready_rule work ≡ ready tid part work
    answers free = ready_is tid part work true o
        (answering (λ b. is_ready b part) (is_busy tid work.node part) (needs_pass part) (doings_of tid work).prepared free done may)

asked_first : (tid : Tid) (part : Participant) (work : Work) → IsOpen tid part work → part.asked ≡ true
    → FirstOf tid part work (first_of_asked part (doings_of tid work))
asked_first tid part work o asked =
    cond_both (needs_pass part) _ _ (FirstOf tid part work)
    (λ needs. cond_both (is_put_off doings) (first_of_rest part) firsts.Pass (FirstOf tid part work)
    (λ off. rest_first tid part work o (pass_is tid part work false o (put_off free (needs_pass part) (is_put_off doings) off)) (held needs))
    (λ on. free_first tid part work firsts.Pass o (λ calm. (
      pass_is tid part work true o
          (passing free (needs_pass part) (is_put_off doings) (free_of part.asked (is_busy tid work.node part) asked calm) needs on),
      held needs,
    ))))
    (λ done. cond_both (is_ready false part && not doings.prepared) (first_of_ready part doings) (first_of_rest part) (FirstOf tid part work)
    (λ may. ready_first tid part work o (passed done) done may)
    (λ e. rest_first tid part work o (passed done) (ready_is tid part work false o
    (not_answering (part.asked && not part.blocked) (is_busy tid work.node part) (is_passive part.engage) (all_agree part) (needs_pass part) doings.prepared done e))))
  where
    doings : Doings
    doings = doings_of tid work

    free : Bool
    free = part.asked && not (is_busy tid work.node part)

    held : needs_pass part ≡ true → try tid ready_rule work ≡ work
    held needs = ready_is tid part work false o (held_back (is_ready (is_busy tid work.node part) part) (needs_pass part) doings.prepared needs)

    passed : needs_pass part ≡ false → try tid pass_rule work ≡ work
    passed done = pass_is tid part work false o (needless free (needs_pass part) (is_put_off doings) done)

pub first_is : (tid : Tid) (part : Participant) (work : Work) → part_of tid work ≡ Some part → is_undecided part ≡ true
    → IsFirst tid work (first_of tid part work)
first_is tid part work known undecided =
    cond_both part.asked _ (first_of_rest part) (FirstOf tid part work) (asked_first tid part work o)
    (λ e. let same = unfree_ready tid part work o (unasked part.asked (is_busy tid work.node part) e) in rest_first tid part work o same.0 same.1)
  where
    o : IsOpen tid part work
    o = record { known = known; undecided = undecided }
