-- Which rule is the first that does something for a transaction, when a step has ended.
use Rattle.std.specs.Prelude.{◌≡◌, Bool, true, false, not, ◌&&◌, ◌==◌, length, if◌then◌else◌}
use Rattle.qs_base.specs.declared.identifiers.Tid.{Tid}
use Rattle.qs_node_settling.specs.declared.choosing.First.{First}
use Rattle.qs_node_settling.specs.declared.choosing.First.TheVariants as firsts
use Rattle.qs_node_step.specs.Deciding.{decide_commit}
use Rattle.qs_node_step.specs.Settling.{is_busy, is_put_off, is_quiet, answer_superior, pass_rule, ready_rule, refuse_rule, forget_rule, try}
use Rattle.qs_node_step.specs.State.{Work, doings_of}
use Rattle.qs_node_step.specs.Voting.{vote_pass}
use Rattle.qs_node_step.specs.declared.state.Doings.{Doings}
use Rattle.qs_tm.specs.Participant.{needs_pass, is_ready}
use Rattle.qs_tm.specs.declared.participant.Participant.{Participant}

-- neither a pass nor readiness is due
abbrev pub first_of_rest : Participant → First
first_of_rest part = if part.engage.home && (length part.causes == 0) then firsts.Nothing else firsts.Refusal

-- all that came can be answered for
abbrev pub first_of_ready : Participant → Doings → First
first_of_ready part doings =
    if not part.engage.home then firsts.Answer else (if is_quiet doings then firsts.Commit else first_of_rest part)

-- an asked node that is not busy
abbrev pub first_of_asked : Participant → Doings → First
first_of_asked part doings =
    if needs_pass part then (if is_put_off doings then first_of_rest part else firsts.Pass)
    else (if is_ready false part && not doings.prepared then first_of_ready part doings else first_of_rest part)

-- a node that is not busy
abbrev pub first_of_free : Participant → Doings → First
first_of_free part doings = if part.asked then first_of_asked part doings else first_of_rest part

-- a pass and readiness wait while the node is busy
abbrev pub waits_while_busy : First → Bool
waits_while_busy firsts.Pass = true
waits_while_busy firsts.Commit = true
waits_while_busy firsts.Answer = true
waits_while_busy firsts.Refusal = false
waits_while_busy firsts.Nothing = false

-- the outcome is not known
abbrev pub first_of : Tid → Participant → Work → First
first_of tid part work =
    if waits_while_busy (first_of_free part (doings_of tid work)) && is_busy tid work.node part then first_of_rest part
    else first_of_free part (doings_of tid work)

-- the rules before it change nothing, and after a pass readiness is not due in the same state
abbrev pub IsFirst : Tid → Work → First → Type 0
IsFirst tid work firsts.Pass = (try tid pass_rule work ≡ vote_pass tid work) × (try tid ready_rule work ≡ work)
IsFirst tid work firsts.Commit = (try tid pass_rule work ≡ work) × (try tid ready_rule work ≡ decide_commit tid work)
IsFirst tid work firsts.Answer = (try tid pass_rule work ≡ work) × (try tid ready_rule work ≡ try tid answer_superior work)
IsFirst tid work firsts.Refusal = (try tid pass_rule work ≡ work) × (try tid ready_rule work ≡ work)
IsFirst tid work firsts.Nothing =
    (try tid pass_rule work ≡ work) × ((try tid ready_rule work ≡ work) × ((try tid refuse_rule work ≡ work) × (try tid forget_rule work ≡ work)))
