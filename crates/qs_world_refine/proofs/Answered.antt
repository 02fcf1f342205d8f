-- A Tell that answers an inquiry is put where the machine lets that outcome be told.
use Rattle.qs_world_refine.proofs.Words.{◌≡◌, ℕ, Bool, true, false, [], ◌∷◌, arith, refl, sym, subst, ap, ◌∙◌, nat_tests, Tid, Message, is_other, send, Work, Outcome_told, IsTold, Link, link, IsEmpty, node_no, said, face_at, place, Scene, sight_during, ShowsWork, IsAt, IsKnown}
use Rattle.qs_base.specs.declared.identifiers.Outcome.TheVariants as outcomes
use Rattle.qs_packet.specs.declared.message.Message.TheVariants as messages
use Rattle.qs_world_agree.specs.World.{World}
use Rattle.qs_world_refine.proofs.Alike.{same_itself}
use Rattle.qs_world_refine.proofs.During.{quiet_itself, face_here, runs}
use Rattle.qs_world_refine.proofs.Learning.{uncounted_said}
use Rattle.qs_world_refine.proofs.Posting.{put_shown, send_is}
use Rattle.qs_world_refine.proofs.Same.{tid_same}
use Rattle.qs_world_refine.proofs.Streams.{ended}

ends_empty : (l : Link) → IsEmpty (ended l l)
ends_empty l = record { requests = omega arith; closers = omega arith; inquiries = λ _. omega arith; all_requests = λ _. refl; all_closers = λ _. refl; all_inquiries = λ _ _. refl }

module _ (tid : Tid) (scene : Scene) (n m i : ℕ) (work : Work) (w : World) (at : IsAt scene n work) (peer : IsKnown scene n m i) (shown : ShowsWork tid scene n work w) where
  told_put : (message : Message) (commit : Bool) → said tid message ≡ Outcome_told commit ∷ [] → IsTold (link w (place n (scene.inc n)) (place m i)) commit → ShowsWork tid scene n (send (node_no m) message work) w
  told_put message commit says told = subst (λ (k : Work). ShowsWork tid scene n k w) (sym (send_is (node_no m) message work goes_out))
      (put_shown tid scene n (node_no m) message (Outcome_told commit) work work w (quiet_itself tid work) says m i refl peer.knows peer.some ((sight_during tid scene n work).face n)
      (uncounted_said tid (sight_during tid scene n work) w n m i (Outcome_told commit) shown (runs tid scene n work at) peer.in_run (told_ended commit told, ends_empty (link w (place n (scene.inc n)) (place m i))))
      (rw (face_here tid scene n work) (same_itself (face_at work.node tid))))
    where
      goes_out : is_other work.node.setting (node_no m) ≡ true
      goes_out = rw (at.node, at.nodes) (grind (arith, nat_tests, peer.other, peer.in_run))

      told_ended : (commit : Bool) → IsTold (link w (place n (scene.inc n)) (place m i)) commit → IsTold (ended (link w (place n (scene.inc n)) (place m i)) (link w (place n (scene.inc n)) (place m i))) commit
      told_ended true is = is
      told_ended false is = is

  node_is : w.node (place m i) ≡ m
  node_is = shown.stage.nodes m i peer.in_run

  pub commit_put : w.tell_commit m ≡ true → ShowsWork tid scene n (send (node_no m) (messages.Tell tid outcomes.Commit) work) w
  commit_put tells = told_put (messages.Tell tid outcomes.Commit) true (rw (tid_same tid) refl) (ap w.tell_commit node_is ∙ tells)

  pub abort_put : w.tell_abort m ≡ true → ShowsWork tid scene n (send (node_no m) (messages.Tell tid outcomes.Abort) work) w
  abort_put tells = told_put (messages.Tell tid outcomes.Abort) false (rw (tid_same tid) refl) (ap w.tell_abort node_is ∙ tells)
