-- What is in hand makes what it may, or is issued; and what leaves what a node has for a client leaves what the course has of it.
use Rattle.std.proofs.Common.{◌≡◌, ◌∙◌, ℕ, true, List, Some, inl, inr, refl, sym, ap, subst}
use Rattle.std.specs.Prelude.{◌<◌}
use Rattle.qs_base.specs.declared.identifiers.ClientNo.{ClientNo}
use Rattle.qs_base.specs.declared.identifiers.NodeNo.{NodeNo}
use Rattle.qs_base_lemmas.proofs.Tests.{some_same}
use Rattle.qs_book_conformance.specs.Course.{borrowing_of, first_of, is_seat}
use Rattle.qs_book_conformance.specs.declared.values.CommandMade.TheVariants as makes
use Rattle.qs_node_kept.specs.declared.kept.Lent.{Lent}
use Rattle.qs_node_step.specs.declared.state.OpenCommand.{OpenCommand}
use Rattle.qs_world_course.specs.Clients.{ForClients, HasMade, IsOver, IsSpent, sought_of}
use Rattle.qs_world_course.specs.Going.{ClientStays, LeavesClient}
use Rattle.qs_world_course.specs.Loans.{HoldsBorrowing}
use Rattle.qs_world_course.specs.Making.{IssuesGo, MadeGoes}

pub issues_go : IssuesGo
issues_go node later client lines state command issued h was is = record {
  seat = h.seat;
  left = h.left;
  line = λ other there. h.line command was ∙ ap (λ (c : OpenCommand). Some c.line) (some_same (sym is ∙ there));
  made = λ other there. subst (λ (c : OpenCommand). HasMade node.here c (makes.Issued (sought_of node.here issued))) (some_same (sym is ∙ there)) refl;
  spent = λ gone. absurd (cc (sym is ∙ gone));
  loans = h.loans;
  refused = h.refused;
  begun = h.begun;
}

pub made_goes : MadeGoes
made_goes node client lines state command made h was may = record {
  seat = h.seat;
  left = h.left;
  line = h.line;
  made = λ other there. subst (λ (c : OpenCommand). HasMade node.here c made) (some_same (sym was ∙ there)) may;
  spent = λ gone. absurd (cc (sym was ∙ gone));
  loans = h.loans;
  refused = h.refused;
  begun = h.begun;
}

-- ---- what is left

over_stays : (client : ClientNo) (old new : ForClients) (label : List ℕ) → LeavesClient client old new → IsOver client old label → IsOver client new label
over_stays client old new label leaves over = record {
  begun = over.begun;
  labelled = leaves.labels label ∙ over.labelled;
  tid = over.tid;
  of = over.of;
  decided = λ own. let had = over.decided own in leaves.outcomes over.tid had.0 had.1;
  lent_before = λ other. let had = over.lent_before other in (had.0, (leaves.last over.tid ∙ had.1.0, subst (λ (n : ℕ). had.0.inc < n) (sym leaves.inc) had.1.1));
}

pub client_stays : ClientStays
client_stays old new client lines state h leaves = record {
  seat = subst (λ (n : NodeNo). is_seat state.seat n.0 ≡ true) (sym leaves.here) h.seat;
  left = h.left;
  line = λ command there. h.line command (sym leaves.in_hand ∙ there);
  made = λ command there. subst (λ (n : NodeNo). HasMade n command state.made) (sym leaves.here) (h.made command (sym leaves.in_hand ∙ there));
  spent = λ gone. spent (h.spent (sym leaves.in_hand ∙ gone));
  loans = λ tid. subst (λ (l : List Lent). HoldsBorrowing l (borrowing_of state tid)) (sym (leaves.loans tid)) (h.loans tid);
  refused = λ label begun there. h.refused label begun (sym (leaves.labels label) ∙ there);
  begun = λ label begun tid there. h.begun label begun tid (sym (leaves.labels label) ∙ there);
}
  where
    spent : IsSpent client old (first_of lines) state.made → IsSpent client new (first_of lines) state.made
    spent (inl nothing) = inl nothing
    spent (inr over) = inr (λ l is. over_stays client old new l.label leaves (over l is))
