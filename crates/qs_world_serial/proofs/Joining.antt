-- A node began over a disk, and its site stands behind the others; or its log was not opened.
use Rattle.std.proofs.Common.{◌≡◌, ◌∙◌, ap, subst, sym, List, [], ◌∷◌, ◌++◌, length, ℕ}
use Rattle.qs_base.specs.Causes.{Rose}
use Rattle.qs_base.specs.declared.identifiers.NodeNo.{NodeNo}
use Rattle.qs_book_script.specs.declared.script.Script.{Script}
use Rattle.qs_cell.specs.State.{disk_of}
use Rattle.qs_cell_peers.specs.Links.{LinksValue}
use Rattle.qs_disk.specs.Disk.{DiskState}
use Rattle.qs_disk.specs.Moments.{Keeps}
use Rattle.qs_log.specs.Image.{IsDamaged}
use Rattle.qs_log.specs.declared.fault.OpenFault.{OpenFault}
use Rattle.qs_log.specs.declared.fault.OpenFault.TheVariants as open_faults
use Rattle.qs_log_start.specs.Incarnation.{IsTouched, MayLeaveUnraised, open_limit}
use Rattle.qs_world_rounds.specs.Rounds.{Cast}
use Rattle.qs_world_rounds.specs.Seats.{BeginsAt}
use Rattle.qs_world_serial.specs.Behind.{HasJoined, HasNotJoined}
use Rattle.qs_world_serial.specs.declared.places.Course.{Course}
use Rattle.qs_world_sites.specs.Sites.{links_of}

module _ {D : Type 0} (told : Type 0) (state : D → DiskState) (own size : D → ℕ) (given disk : D) (given_is : given ≡ disk) where
  pub joined_at : (course : Course) (script : Script) (sites joined : List (Cast D)) (links others : List LinksValue) (own_links : LinksValue) (node : NodeNo) (site : Cast D) → node ≡ record { 0 = length sites }
      → joined ≡ sites ++ site ∷ [] → links ≡ own_links ∷ others → links_of site ≡ own_links → BeginsAt told state own course.alloc script course.nodes node given site
      → (told → Keeps (IsTouched (state given)) (state given) (state (disk_of site.node.seat.node).disk)) → size (disk_of site.node.seat.node).disk ≡ size given
      → HasJoined told state own size course script sites joined links others disk
  joined_at course script sites joined links others own_links node site node_is joins taken links_is begins moments bytes = record {
    site = site;
    sites_are = joins;
    links_are = taken ∙ ap (λ (l : LinksValue). l ∷ others) (sym links_is);
    begins = subst (λ (n : NodeNo). BeginsAt told state own course.alloc script course.nodes n disk site) node_is (subst (λ (d : D). BeginsAt told state own course.alloc script course.nodes node d site) given_is begins);
    touched = record {
      moments = λ yes. subst (λ (d : D). Keeps (IsTouched (state d)) (state d) (state (disk_of site.node.seat.node).disk)) given_is (moments yes);
      bytes = bytes ∙ ap size given_is;
    };
  }

  pub not_joined_at : (why : OpenFault) (after : D) → (told → (at : ℕ) → why ≡ open_faults.Damaged at → IsDamaged open_limit (state given).content at) → (why ≡ open_faults.DiskFailed → Rose (own given) (own after))
      → (told → Keeps (IsTouched (state given)) (state given) (state after)) → (told → why ≡ open_faults.DiskFailed → MayLeaveUnraised (state given) (state after)) → size after ≡ size given
      → HasNotJoined told state own size why disk after
  not_joined_at why after damaged failed moments kept bytes = record {
    unopened = record {
      damaged = λ yes at is. subst (λ (d : D). IsDamaged open_limit (state d).content at) given_is (damaged yes at is);
      failed = λ is. subst (λ (d : D). Rose (own d) (own after)) given_is (failed is);
      kept = λ yes is. subst (λ (d : D). MayLeaveUnraised (state d) (state after)) given_is (kept yes is);
    };
    touched = record {
      moments = λ yes. subst (λ (d : D). Keeps (IsTouched (state d)) (state d) (state after)) given_is (moments yes);
      bytes = bytes ∙ ap size given_is;
    };
  }
