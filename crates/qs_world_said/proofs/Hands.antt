-- What a node has in hand stays said as scripts say it: as a line comes, as a label is met, as a request is issued, and as what is in hand is answered.
use Rattle.std.proofs.Common.{◌≡◌, ◌∙◌, ℕ, ◌==◌, Bool, true, false, List, [], ◌∷◌, ◌++◌, Some, None, inl, inr, refl, sym, ap, subst}
use Rattle.std.specs.Prelude.{◌⊎◌}
use Rattle.std.specs.BTreeMap.{is_at}
use Rattle.std.specs.List.{find}
use Rattle.std.specs.Map.{remove_entry}
use Rattle.std.specs.Cmp.{IsTotalOrder}
use Rattle.std.proofs.lemmas.Cmp.{nat_cmp_total, on_total}
use Rattle.qs_base.specs.declared.identifiers.ClientNo.{ClientNo}
use Rattle.qs_base.specs.declared.identifiers.Tid.{Tid}
use Rattle.qs_book_laws.proofs.Rising.{IsRising, remove_rises, removed}
use Rattle.qs_node_kept.specs.Keeping.{has_label}
use Rattle.qs_node_kept.specs.Loans.{last_taken}
use Rattle.qs_node_kept.specs.declared.kept.KeptLabel.{KeptLabel}
use Rattle.qs_node_step.specs.Serving.{label_at}
use Rattle.qs_node_step.specs.State.{NodeValue, client_cmp}
use Rattle.qs_node_step.specs.Step.{is_owner}
use Rattle.qs_node_step.specs.declared.state.Issued.{Issued}
use Rattle.qs_node_step.specs.declared.state.OpenCommand.{OpenCommand}
use Rattle.qs_world_course.specs.Clients.{Commands, in_hand_of}
use Rattle.qs_world_lawful.proofs.Answers.{client_exact}
use Rattle.qs_world_lawful.proofs.OtherShares.{removed_apart}
use Rattle.qs_world_said.specs.Hands.{HoldsHands, IsSaidAs, IsToBegin, Owns}
use Rattle.qs_world_said.specs.Knows.{HasUngiven, KnowsIssued, MaySay}
use Rattle.qs_world_said.proofs.Lookups.{far_at, same_number}

pub client_total : IsTotalOrder client_cmp
client_total = on_total (λ (c : ClientNo). c.0) nat_cmp_total

-- a label that is not among them is not, where one of another name is put behind
pub unmet_more : (label : List ℕ) (xs : List KeptLabel) (y : KeptLabel) → find (has_label label) xs ≡ None → has_label label y ≡ false → find (has_label label) (xs ++ y ∷ []) ≡ None
unmet_more label [] y none far = rw far refl
unmet_more label (x ∷ xs) y none far = by (has_label label x) refl (λ n. unmet_more label xs y n far)
  where
    by : (b : Bool) → has_label label x ≡ b → (find (has_label label) xs ≡ None → find (has_label label) (xs ++ y ∷ []) ≡ None) → find (has_label label) (x ∷ (xs ++ y ∷ [])) ≡ None
    by true is more = absurd (cc (rw is at none))
    by false is more = rw is (more (rw is at none))

module _ (own : Owns) where
  -- ---- what is left of what one command hangs on

  pub record Leaves (old new : NodeValue) (client : ClientNo) (command : OpenCommand) : Type 0 where
    pub there : in_hand_of client old.commands ≡ Some command
    pub unmet : IsToBegin own old client command.line → label_at command.line.label new ≡ None
    pub last : (tid : Tid) → last_taken client tid new.kept.now.loans ≡ last_taken client tid old.kept.now.loans

  module _ (old new : NodeValue) (inc : new.setting.inc ≡ old.setting.inc) (grow : (label : List ℕ) (begun : KeptLabel) → label_at label old ≡ Some begun → label_at label new ≡ Some begun) (h : HoldsHands own old) where
    said_left : (client : ClientNo) (command : OpenCommand) → Leaves old new client command → IsSaidAs own new client command.line
    said_left client command l = record { sits = was.sits; named = was.named; says = by was.says }
      where
        was : IsSaidAs own old client command.line
        was = h.hands client command l.there

        by : MaySay (is_owner client (own.begins command.line.label)) command.line.command ⊎ IsToBegin own old client command.line → MaySay (is_owner client (own.begins command.line.label)) command.line.command ⊎ IsToBegin own new client command.line
        by (inl may) = inl may
        by (inr b) = inr (b.0, (b.1.0, l.unmet b))

    ungiven_left : (client : ClientNo) (tid : Tid) → last_taken client tid new.kept.now.loans ≡ last_taken client tid old.kept.now.loans → HasUngiven old client tid → HasUngiven new client tid
    ungiven_left client tid last u = record { loan = u.loan; last = last ∙ u.last; ungiven = u.ungiven; present = u.present ∙ sym inc }

    issued_left : (client : ClientNo) (command : OpenCommand) (issued : Issued) → Leaves old new client command → command.issued ≡ Some issued → KnowsIssued new client command issued
    issued_left client command issued l is = let k : KnowsIssued old client command issued = h.issued client command issued l.there is in
        record { op = k.op; asks = k.asks; begun = k.begun; met = grow command.line.label k.begun k.met; of = k.of; lent = λ other. ungiven_left client issued.tid (l.last issued.tid) (k.lent other) }

    -- a command is left, or all of it is known anew
    abbrev pub IsHeld : ClientNo → OpenCommand → Type 0
    IsHeld client command = Leaves old new client command ⊎ (IsSaidAs own new client command.line × ((issued : Issued) → command.issued ≡ Some issued → KnowsIssued new client command issued))

    pub holds : IsRising client_cmp new.commands → ((label : List ℕ) (begun : KeptLabel) → label_at label new ≡ Some begun → begun.owner ≡ own.begins label) → ((client : ClientNo) (command : OpenCommand) → in_hand_of client new.commands ≡ Some command → IsHeld client command)
        → HoldsHands own new
    holds apart owners each = record {
      apart = apart;
      owners = owners;
      hands = λ client command there. said client command (each client command there);
      issued = λ client command issued there is. known client command issued is (each client command there);
    }
      where
        said : (client : ClientNo) (command : OpenCommand) → IsHeld client command → IsSaidAs own new client command.line
        said client command (inl l) = said_left client command l
        said client command (inr k) = k.0

        known : (client : ClientNo) (command : OpenCommand) (issued : Issued) → command.issued ≡ Some issued → IsHeld client command → KnowsIssued new client command issued
        known client command issued is (inl l) = issued_left client command issued l is
        known client command issued is (inr k) = k.1 issued is

  -- ---- labels are left

  module _ (old new : NodeValue) (inc : new.setting.inc ≡ old.setting.inc) (labels : new.kept.now.labels ≡ old.kept.now.labels) (h : HoldsHands own old) where
    pub at_still : (label : List ℕ) → label_at label new ≡ label_at label old
    at_still label = ap (find (has_label label)) labels

    pub still : IsRising client_cmp new.commands → ((client : ClientNo) (command : OpenCommand) → in_hand_of client new.commands ≡ Some command → IsHeld old new inc (λ label begun met. at_still label ∙ met) h client command) → HoldsHands own new
    still apart each = holds old new inc (λ label begun met. at_still label ∙ met) h apart (λ label begun met. h.owners label begun (sym (at_still label) ∙ met)) each

    abbrev pub AreLeft : ClientNo → Type 0
    AreLeft k = (tid : Tid) → last_taken k tid new.kept.now.loans ≡ last_taken k tid old.kept.now.loans

    pub left : (client : ClientNo) (command : OpenCommand) → in_hand_of client old.commands ≡ Some command → AreLeft client → Leaves old new client command
    left client command there last = record { there = there; unmet = λ b. at_still command.line.label ∙ b.1.1; last = last }

    -- what is in hand is left
    pub same : new.commands ≡ old.commands → ((k : ClientNo) → AreLeft k) → HoldsHands own new
    same commands last = still (subst (λ (cs : Commands). IsRising client_cmp cs) (sym commands) h.apart) (λ client command there. inl (left client command (ap (in_hand_of client) (sym commands) ∙ there) (last client)))

    -- one is answered
    pub closes : (client : ClientNo) → new.commands ≡ remove_entry (is_at (client_cmp client)) old.commands → ((k : ClientNo) → (client.0 == k.0) ≡ false → AreLeft k) → HoldsHands own new
    closes client commands last = still (subst (λ (cs : Commands). IsRising client_cmp cs) (sym commands) (remove_rises client_cmp (is_at (client_cmp client)) old.commands h.apart)) (λ k command there. inl (by k command there (client.0 == k.0) refl))
      where
        by : (k : ClientNo) (command : OpenCommand) → in_hand_of k new.commands ≡ Some command → (b : Bool) → (client.0 == k.0) ≡ b → Leaves old new k command
        by k command there true is = absurd (cc (sym (subst (λ (c : ClientNo). in_hand_of c new.commands ≡ None) (same_number client k is) (ap (in_hand_of client) commands ∙ removed client_cmp client_exact client old.commands h.apart)) ∙ there))
        by k command there false is = left k command (sym (ap (in_hand_of k) commands ∙ removed_apart (is_at (client_cmp client)) (is_at (client_cmp k)) (far_at client k is) old.commands) ∙ there) (last k is)
