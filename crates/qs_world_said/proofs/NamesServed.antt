-- Names stand as a request is served and a loan is made.
use Rattle.std.proofs.Common.{◌≡◌, ◌∙◌, ℕ, true, List, [], ◌∷◌, ◌++◌, Option, Some, None, append_assoc, refl, sym, ap, subst}
use Rattle.std.specs.BTreeMap.{is_at}
use Rattle.std.specs.Map.{lookup}
use Rattle.std.specs.Option.{option_map}
use Rattle.qs_base.specs.Order.{bytes_cmp}
use Rattle.qs_base.specs.declared.identifiers.ClientNo.{ClientNo}
use Rattle.qs_base.specs.declared.identifiers.NodeNo.{NodeNo}
use Rattle.qs_base.specs.declared.identifiers.ServerNo.{ServerNo}
use Rattle.qs_base.specs.declared.identifiers.Tid.{Tid}
use Rattle.qs_ipc.specs.declared.delivery.Delivery.{Delivery}
use Rattle.qs_ops.specs.declared.reply.Reply.{Reply}
use Rattle.qs_book_journal.specs.declared.entry.Act.{Act}
use Rattle.qs_book_journal.specs.declared.entry.Act.TheVariants as acts
use Rattle.qs_book_journal.specs.declared.entry.Entry.{Entry}
use Rattle.qs_book_laws.proofs.Acts.{by_loan, by_serve}
use Rattle.qs_book_laws.proofs.Faces.{Alike, Face, face}
use Rattle.qs_book_machine.specs.Book.{BookValue, find_label, find_transaction}
use Rattle.qs_book_machine.specs.Lawful.{effect, effect_act}
use Rattle.qs_book_conformance.specs.Answers.{is_outcome_answer}
use Rattle.qs_book_conformance.specs.Course.{CourseValue}
use Rattle.qs_node_kept.specs.declared.kept.Decided.{Decided}
use Rattle.qs_node_kept.specs.declared.kept.KeptLabel.{KeptLabel}
use Rattle.qs_node_step.specs.Bringing.{member_here}
use Rattle.qs_node_step.specs.Commands.{outcome_answer}
use Rattle.qs_node_step.specs.Serving.{lent_to}
use Rattle.qs_node_step.specs.State.{Work}
use Rattle.qs_node_step.specs.declared.event.Event.TheVariants as events
use Rattle.qs_world.specs.Posting.{entry_of}
use Rattle.qs_world_course.specs.Worlds.{IsToldSo}
use Rattle.qs_world_walk.specs.Deed.{loan_entered, served}
use Rattle.qs_world_said.specs.Amid.{course_amid}
use Rattle.qs_world_said.specs.Hands.{Owns}
use Rattle.qs_world_said.specs.Labels.{AreLabelled}
use Rattle.qs_world_said.specs.Naming.{AreOwned, NamesStand}
use Rattle.qs_world_said.specs.Outcomes.{AreTold}
use Rattle.qs_world_said.proofs.Frames.{course_then}
use Rattle.qs_world_said.proofs.Hands as hands
use Rattle.qs_world_said.proofs.HandsTable.{lends}
use Rattle.qs_world_said.proofs.Labelled.{IsPlain, plain_labels}
use Rattle.qs_world_said.proofs.Owners.{by_alike, owner_stays}
use Rattle.qs_world_said.proofs.Told.{found_face}

told_alike : (old new : BookValue) → Alike old new → (tid : Tid) (decided : Decided) → IsToldSo old tid decided → IsToldSo new tid decided
told_alike old new a tid decided t = let f = found_face (find_transaction new tid) (face t.tx) (a.faces tid ∙ ap (option_map face) t.found) in
    record { tx = f.0; found = f.1.0; so = subst (λ (seen : Face). is_outcome_answer seen.cell seen.cause (outcome_answer decided) ≡ true) (sym f.1.1) t.so }

module _ (own : Owns) (met : List KeptLabel) (ended : List Decided) where
  pub record StandIn (book : BookValue) : Type 0 where
    pub labels : AreLabelled book met
    pub outcomes : AreTold book ended
    pub owners : AreOwned own book

  entry_stands : (book : BookValue) (entry : Entry) → IsPlain entry.act → Alike book (effect_act entry.stamp entry.node.0 entry.act book) → StandIn book → StandIn (effect book entry)
  entry_stands book entry plain a h = record {
    labels = λ label begun tid named there of. same label ∙ h.labels label begun tid named there of;
    outcomes = λ tid decided there. told_alike book (effect book entry) alike tid decided (h.outcomes tid decided there);
    owners = λ label tid there. owner_stays own book (effect book entry) (by_alike book (effect book entry) alike) label tid (h.owners label tid (sym (same label) ∙ there));
  }
    where
      alike : Alike book (effect book entry)
      alike = record { faces = a.faces; ages = a.ages; tolds = a.tolds }

      same : (label : List ℕ) → find_label (effect book entry) label ≡ find_label book label
      same label = ap (lookup (is_at (bytes_cmp label))) (plain_labels entry.stamp entry.node.0 entry.act plain book)

pub served_names : (own : Owns) (stamp : ℕ) (before : CourseValue) (work : Work) (server : ServerNo) (delivery : Delivery) (reply : Reply) → NamesStand own (course_amid stamp before work) work.node
    → NamesStand own (course_amid stamp before (served server delivery reply work)) (served server delivery reply work).node
served_names own stamp before work server delivery reply n = record {
  hands = hands.same own work.node made.node refl refl n.hands refl (λ k t. lends own events.Tick (lent_to delivery.op) k delivery.tid t work.node.setting.inc work.node.kept.now.loans);
  labels = stands.labels;
  outcomes = stands.outcomes;
  owners = stands.owners;
}
  where
    made : Work
    made = served server delivery reply work

    here : NodeNo
    here = work.node.setting.node

    book : BookValue
    book = (course_amid stamp before work).book

    act : Act
    act = acts.Serve delivery.tid (member_here work server) delivery.from delivery.number reply

    In : BookValue → Type 0
    In b = StandIn own work.node.kept.now.labels work.node.kept.now.outcomes b

    one : In (effect book (entry_of here.0 stamp act))
    one = entry_stands own work.node.kept.now.labels work.node.kept.now.outcomes book (entry_of here.0 stamp act) tt (by_serve here.0 delivery.tid (member_here work server) delivery.from delivery.number stamp reply book) (record { labels = n.labels; outcomes = n.outcomes; owners = n.owners })

    by : (o : Option ClientNo) → lent_to delivery.op ≡ o → In (course_amid stamp before made).book
    by None is = subst In (sym (ap (λ (c : CourseValue). c.book) (course_then stamp before work made (act ∷ []) refl (ap (λ o. loan_entered delivery.tid o (work.out.entries ++ act ∷ [])) is)))) one
    by (Some client) is = subst In (sym (ap (λ (c : CourseValue). c.book) (course_then stamp before work made (act ∷ acts.Loan delivery.tid client ∷ []) refl
        (ap (λ o. loan_entered delivery.tid o (work.out.entries ++ act ∷ [])) is ∙ append_assoc work.out.entries (act ∷ []) (acts.Loan delivery.tid client ∷ [])))))
        (entry_stands own work.node.kept.now.labels work.node.kept.now.outcomes (effect book (entry_of here.0 stamp act)) (entry_of here.0 stamp (acts.Loan delivery.tid client)) tt (by_loan here.0 delivery.tid client (effect book (entry_of here.0 stamp act))) one)

    stands : In (course_amid stamp before made).book
    stands = by (lent_to delivery.op) refl
