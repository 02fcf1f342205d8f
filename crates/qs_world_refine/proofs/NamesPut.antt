-- A Told on abort is put, with names of those whom its place has named.
use Rattle.qs_world_refine.proofs.Words.{◌≡◌, ◌≢◌, inr, ℕ, ◌==◌, Bool, true, List, refl, sym, subst, ◌∙◌, arith, if◌then◌else◌, nat_tests, NodeNo, Tid, is_other, send, Work, Aborted, IsLawful, Face, Taken_in, link, IsEmpty, node_no, names_node, face_at, place, NamedGoes, drew, sight_faced, Scene, sight_during, ShowsWork, Sight, IsAt, IsKnown, Goes}
use Rattle.qs_packet.specs.declared.message.Message.TheVariants as messages
use Rattle.qs_world_agree.specs.World.{World}
use Rattle.qs_world_refine.specs.Links.{is_aborted}
use Rattle.qs_world_refine.proofs.Alike.{same_itself}
use Rattle.qs_world_refine.proofs.During.{quiet_itself, face_here, runs}
use Rattle.qs_world_refine.proofs.Facts.{lawful_on}
use Rattle.qs_world_refine.proofs.Learning.{uncounted_said}
use Rattle.qs_world_refine.proofs.Posting.{put_shown, send_is}
use Rattle.qs_world_refine.proofs.Same.{tid_same}
use Rattle.qs_world_refine.proofs.Streams.{ended}

module _ (tid : Tid) (scene : Scene) (n m i : ℕ) (work : Work) (w : World) (lawful : IsLawful w) (peer : IsKnown scene n m i) where
  abbrev x : Sight
  x = sight_during tid scene n work

  pub names_put : (new : Work) (f : Face) (further : List NodeNo) (turn : NamedGoes tid x (sight_faced x n f) w n) → f.outcome ≡ Aborted → IsAt scene n new → ShowsWork tid scene n new turn.next
      → ((k : ℕ) → names_node further (node_no k) ≡ true → (k ≢ tid.home.0) × (drew (x.face n) k ≡ true))
      → Goes tid scene n (send (node_no m) (messages.Told tid further) new) w
  names_put new f further turn aborted at seen names = record {
    next = turn.next;
    leads = turn.leads;
    shown = subst (λ (k : Work). ShowsWork tid scene n k turn.next) (sym (send_is (node_no m) (messages.Told tid further) new goes_out))
        (put_shown tid scene n (node_no m) (messages.Told tid further) (Taken_in further) new new turn.next (quiet_itself tid new) (rw (tid_same tid) refl) m i refl peer.knows peer.some ((sight_during tid scene n new).face n)
        (uncounted_said tid (sight_during tid scene n new) turn.next n m i (Taken_in further) seen (runs tid scene n new at) peer.in_run (inr (cell_aborted, λ k named. let both = names k named in turn.named k both.0 both.1), ends_empty))
        (rw (face_here tid scene n new) (same_itself (face_at new.node tid))));
  }
    where
      goes_out : is_other new.node.setting (node_no m) ≡ true
      goes_out = rw (at.node, at.nodes) (grind (arith, nat_tests, peer.other, peer.in_run))

      here_aborted : (b : Bool) → b ≡ true → (if b then f else x.face n).outcome ≡ Aborted
      here_aborted b is = rw is aborted

      knows : turn.next.outcome (place n (scene.inc n)) ≡ Aborted
      knows = (turn.shown.faces n at.in_run at.up).outcome ∙ here_aborted (n == n) (grind (arith, nat_tests))

      cell_aborted : is_aborted turn.next ≡ true
      cell_aborted = rw ((lawful_on w turn.next lawful turn.leads).agreed.knows_abort (place n (scene.inc n)) knows) refl

      ends_empty : IsEmpty (ended (link turn.next (place n (scene.inc n)) (place m i)) (link turn.next (place n (scene.inc n)) (place m i)))
      ends_empty = record { requests = omega arith; closers = omega arith; inquiries = λ _. omega arith; all_requests = λ _. refl; all_closers = λ _. refl; all_inquiries = λ _ _. refl }
