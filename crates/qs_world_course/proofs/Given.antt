-- Replies that were given stay given, and what is served is given.
use Rattle.std.proofs.Common.{◌≡◌, ◌∙◌, Bool, true, false, List, [], ◌∷◌, ◌++◌, Option, Some, None, inl, inr, refl, sym, ap, subst}
use Rattle.std.specs.BTreeMap.{is_at}
use Rattle.std.specs.List.{list_any}
use Rattle.std.specs.Map.{lookup, set_value}
use Rattle.qs_base.proofs.Same.{same_bytes-self, same_lists-self, same_tid-self}
use Rattle.qs_base_lemmas.proofs.Tests.{eqb-self}
use Rattle.qs_book_machine.specs.Transaction.{changed_value}
use Rattle.qs_ops.specs.Operations.{answer_of}
use Rattle.qs_ops.specs.declared.reply.Reply.{Reply}
use Rattle.qs_ops.specs.declared.reply.Reply.TheVariants as replies
use Rattle.qs_book_conformance.specs.Alike.{is_answer_of}
use Rattle.qs_book_conformance.specs.Course.{sought_cmp}
use Rattle.qs_book_conformance.specs.declared.values.Sought.{Sought}
use Rattle.qs_world_course.specs.Going.{GivenStays, ServedIsGiven}
use Rattle.qs_book_laws.proofs.Maps.{Either, changed_either, changed_none, lookup_changed}

-- the answer that a reply makes answers it
pub own_answer : (reply : Reply) → is_answer_of (answer_of reply) reply ≡ true
own_answer replies.Done = refl
own_answer (replies.Value text) = same_bytes-self text
own_answer (replies.Left ticks) = eqb-self ticks
own_answer (replies.Names list) = same_lists-self list
own_answer (replies.Notes list) = same_lists-self list
own_answer (replies.Busy holder) = same_tid-self holder
own_answer replies.Absent = refl
own_answer replies.TooMany = refl
own_answer replies.TooLong = refl

any_more : (p : Reply → Bool) (xs : List Reply) (x : Reply) → list_any p xs ≡ true → list_any p (xs ++ x ∷ []) ≡ true
any_more p [] x e = absurd (cc e)
any_more p (y ∷ ys) x e = by (p y) refl e (λ f. any_more p ys x f)
  where
    by : (b : Bool) → p y ≡ b → list_any p (y ∷ ys) ≡ true → (list_any p ys ≡ true → list_any p (ys ++ x ∷ []) ≡ true) → list_any p (y ∷ (ys ++ x ∷ [])) ≡ true
    by true is any more = rw is refl
    by false is any more = rw is (more (rw is at any))

any_last : (p : Reply → Bool) (xs : List Reply) (x : Reply) → p x ≡ true → list_any p (xs ++ x ∷ []) ≡ true
any_last p [] x e = rw e refl
any_last p (y ∷ ys) x e = by (p y) refl (any_last p ys x e)
  where
    by : (b : Bool) → p y ≡ b → list_any p (ys ++ x ∷ []) ≡ true → list_any p (y ∷ (ys ++ x ∷ [])) ≡ true
    by true is more = rw is refl
    by false is more = rw is more

abbrev given_in : Reply → Option (List Reply) → Bool
given_in reply o = elim o [ None ↦ true | Some given ↦ list_any (is_answer_of (answer_of reply)) given ]

pub given_stays : GivenStays
given_stays course sought other reply more is = by (lookup (is_at (sought_cmp other)) course.replies) refl
  where
    f : List Reply → List Reply
    f given = given ++ more ∷ []

    at : (v : List Reply) → Either (lookup (is_at (sought_cmp sought)) course.replies) (lookup (is_at (sought_cmp sought)) (changed_value (is_at (sought_cmp other)) f course.replies)) v (f v)
        → given_in reply (lookup (is_at (sought_cmp sought)) (changed_value (is_at (sought_cmp other)) f course.replies)) ≡ true
    at v (inl same) = ap (given_in reply) same ∙ is
    at v (inr both) = ap (given_in reply) both.1 ∙ any_more (is_answer_of (answer_of reply)) v more (sym (ap (given_in reply) both.0) ∙ is)

    unchanged : lookup (is_at (sought_cmp other)) course.replies ≡ None → changed_value (is_at (sought_cmp other)) f course.replies ≡ course.replies
    unchanged none = subst (λ (o : Option (List Reply)). (elim o [ None ↦ course.replies | Some v ↦ set_value (is_at (sought_cmp other)) course.replies (f v) ]) ≡ course.replies) (sym none) refl

    by : (o : Option (List Reply)) → lookup (is_at (sought_cmp other)) course.replies ≡ o → given_in reply (lookup (is_at (sought_cmp sought)) (changed_value (is_at (sought_cmp other)) f course.replies)) ≡ true
    by None none = ap (λ (es : List (Sought × List Reply)). given_in reply (lookup (is_at (sought_cmp sought)) es)) (unchanged none) ∙ is
    by (Some v) there = at v (changed_either (is_at (sought_cmp other)) (is_at (sought_cmp sought)) f course.replies v there)

pub served_is_given : ServedIsGiven
served_is_given course sought reply = by (lookup (is_at (sought_cmp sought)) course.replies) refl
  where
    f : List Reply → List Reply
    f given = given ++ reply ∷ []

    by : (o : Option (List Reply)) → lookup (is_at (sought_cmp sought)) course.replies ≡ o → given_in reply (lookup (is_at (sought_cmp sought)) (changed_value (is_at (sought_cmp sought)) f course.replies)) ≡ true
    by None none = ap (given_in reply) (changed_none (is_at (sought_cmp sought)) f course.replies none)
    by (Some v) there = ap (given_in reply) (lookup_changed (is_at (sought_cmp sought)) f course.replies v there) ∙ any_last (is_answer_of (answer_of reply)) v reply (own_answer reply)
