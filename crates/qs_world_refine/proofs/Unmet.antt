-- A message of the transaction is sent to a node of which no incarnation is known: it waits.
use Rattle.qs_world_refine.proofs.Words.{◌≡◌, ℕ, ◌==◌, ◌&&◌, not, Bool, true, false, List, [], ◌∷◌, ◌++◌, arith, refl, sym, ap, ◌∙◌, append_assoc, if◌then◌else◌, eqb-true, nat_tests, NodeNo, Tid, Message, Sending, Work, Face, Said, said, all_said, face_at, sight_waiting, Scene, said_during, unmet_during, sight_during, ShowsWork, Sight, ShowsSight, eqb-self}
use Rattle.qs_world_agree.specs.World.{World}
use Rattle.qs_world_refine.specs.Shows.{sent_to}
use Rattle.qs_world_refine.proofs.Alike.{SameFace, same_itself, sight_alike}
use Rattle.qs_world_refine.proofs.During.{Quiet, said_same, unmet_same, found_same}
use Rattle.qs_world_refine.proofs.Posting.{sent_work}
use Rattle.qs_world_refine.proofs.Sending.{more, sent_here, sent_there}

module _ (tid : Tid) (scene : Scene) (n : ℕ) (to : NodeNo) (message : Message) (sendings : List Sending) (unknown : (scene.knows n to.0 == 0) ≡ true) where
  -- nothing more is on a link
  pub said_still : (a k b j : ℕ) → said_during tid scene n (more tid scene n to message sendings) a k b j ≡ said_during tid scene n sendings a k b j
  said_still a k b j = by (to.0 == b) refl
    where
      none : (p q r : Bool) → (p && (q && (r && not r))) ≡ false
      none true true true = refl
      none true true false = refl
      none true false r = refl
      none false q r = refl

      knows_is : (to.0 == b) ≡ true → scene.knows n b ≡ 0
      knows_is e = ap (λ (m : ℕ). scene.knows n m) (sym (eqb-true to.0 b e)) ∙ eqb-true (scene.knows n to.0) 0 unknown

      off : (t : Bool) → t ≡ false → (if t then all_said tid (scene.pending a k b j) ++ all_said tid (sent_to b (more tid scene n to message sendings)) else all_said tid (scene.pending a k b j))
          ≡ (if t then all_said tid (scene.pending a k b j) ++ all_said tid (sent_to b sendings) else all_said tid (scene.pending a k b j))
      off t is = rw is refl

      by : (c : Bool) → (to.0 == b) ≡ c → said_during tid scene n (more tid scene n to message sendings) a k b j ≡ said_during tid scene n sendings a k b j
      by false e = rw (sent_there tid scene n to message sendings b e) refl
      by true e = off ((a == n) && ((k == scene.inc n) && ((j == scene.knows n b) && not (j == 0)))) (rw (knows_is e) (none (a == n) (k == scene.inc n) (j == 0)))

  -- and it waits behind all others
  pub unmet_more : (a b : ℕ) → unmet_during tid scene n (more tid scene n to message sendings) a b ≡ (if (a == n) && (b == to.0) then unmet_during tid scene n sendings n to.0 ++ said tid message else unmet_during tid scene n sendings a b)
  unmet_more a b = by (a == n) (b == to.0) refl refl
    where
      turned : (c d : ℕ) (e : Bool) → (c == d) ≡ e → (d == c) ≡ e
      turned c d e is = grind (arith, nat_tests, is)

      test : ((n == n) && (scene.knows n to.0 == 0)) ≡ true
      test = rw (eqb-self n, unknown) refl

      picked : (t : Bool) → t ≡ true → (xs ys zs : List Said) → (if t then xs ++ (ys ++ zs) else xs) ≡ (if t then xs ++ ys else xs) ++ zs
      picked t is xs ys zs = rw is (sym (append_assoc xs ys zs))

      here : unmet_during tid scene n (more tid scene n to message sendings) n to.0 ≡ unmet_during tid scene n sendings n to.0 ++ said tid message
      here = rw (sent_here tid scene n to message sendings) (picked ((n == n) && (scene.knows n to.0 == 0)) test (all_said tid (scene.unmet n to.0)) (all_said tid (sent_to to.0 sendings)) (said tid message))

      by : (c d : Bool) → (a == n) ≡ c → (b == to.0) ≡ d → unmet_during tid scene n (more tid scene n to message sendings) a b ≡ (if c && d then unmet_during tid scene n sendings n to.0 ++ said tid message else unmet_during tid scene n sendings a b)
      by true true ea eb = rw (eqb-true a n ea, eqb-true b to.0 eb) here
      by true false ea eb = rw (sent_there tid scene n to message sendings b (turned b to.0 false eb)) refl
      by false d ea eb = rw ea refl

module _ (tid : Tid) (scene : Scene) (n : ℕ) (to : NodeNo) (message : Message) (what : Said) (work mid : Work) (w : World) (quiet : Quiet tid work mid) (says : said tid message ≡ what ∷ []) (unknown : (scene.knows n to.0 == 0) ≡ true) where
  abbrev x : Sight
  x = sight_during tid scene n work

  abbrev posted : Work
  posted = sent_work to message mid

  said_now : (a k b l : ℕ) → said_during tid scene n posted.out.messages a k b l ≡ x.said a k b l
  said_now a k b l = said_still tid scene n to message mid.out.messages unknown a k b l ∙ said_same tid scene n work mid w quiet a k b l

  unmet_now : (a b : ℕ) → unmet_during tid scene n posted.out.messages a b ≡ (if (a == n) && (b == to.0) then x.unmet n to.0 ++ what ∷ [] else x.unmet a b)
  unmet_now a b = unmet_more tid scene n to message mid.out.messages unknown a b ∙ both ((a == n) && (b == to.0))
    where
      both : (t : Bool) → (if t then unmet_during tid scene n mid.out.messages n to.0 ++ said tid message else unmet_during tid scene n mid.out.messages a b) ≡ (if t then x.unmet n to.0 ++ what ∷ [] else x.unmet a b)
      both true = ap (λ (s : List Said). s ++ said tid message) (unmet_same tid scene n work mid w quiet n to.0) ∙ ap (λ (s : List Said). x.unmet n to.0 ++ s) says
      both false = unmet_same tid scene n work mid w quiet a b

  -- an event let it wait and changed the face of the node, and the node changed so
  pub wait_shown : (f : Face) → ShowsSight tid (sight_waiting x n to.0 f what) w → SameFace f (face_at mid.node tid) → ShowsWork tid scene n posted w
  wait_shown f shown same = sight_alike tid (sight_waiting x n to.0 f what) (sight_during tid scene n posted) w
      (record { size = refl; inc = refl; up = refl; knows = refl; face = faces; said = said_now; unmet = unmet_now; found = found_same tid scene n work mid w quiet }) shown
    where
      faces : (k : ℕ) → SameFace (if k == n then f else x.face k) ((sight_during tid scene n posted).face k)
      faces k = by (k == n)
        where
          by : (b : Bool) → SameFace (if b then f else (if b then face_at work.node tid else face_at (scene.node k) tid)) (if b then face_at mid.node tid else face_at (scene.node k) tid)
          by true = same
          by false = same_itself (face_at (scene.node k) tid)
