-- Two puts, of which the second may fail.
use Rattle.std.proofs.Common.{ℕ, ◌≡◌, List, ◌++◌, Result, Ok, Err, OnOk, OnErr, subst}
use Rattle.slice_base.specs.declared.faults.Failed.{Failed}
use Rattle.outside.specs.Output.{Output, Put, PutFront}
use Rattle.outside.specs.Walks.{PutLaws}

-- the first put failed
pub broke_first : PutLaws → (a b : Output) (x y whole : List ℕ) → x ++ y ≡ whole → PutFront a x b → PutFront a whole b
broke_first l a b x y whole e p = subst (λ text. PutFront a text b) e (l.more a b x y p)

-- the second put failed, if one did
pub broke_second : PutLaws → (r : Result (Unit {0}) Failed) (a b c : Output) (x y whole : List ℕ) → x ++ y ≡ whole → Put a x b → OnErr r (PutFront b y c) → OnErr r (PutFront a whole c)
broke_second l (Ok u) a b c x y whole e p q = tt
broke_second l (Err u) a b c x y whole e p q = subst (λ text. PutFront a text c) e (l.after a b c x y p q)

-- both were put, unless the second failed
pub put_both : PutLaws → (r : Result (Unit {0}) Failed) (a b c : Output) (x y whole : List ℕ) → x ++ y ≡ whole → Put a x b → OnOk r (Put b y c) → OnOk r (Put a whole c)
put_both l (Ok u) a b c x y whole e p q = subst (λ text. Put a text c) e (l.append a b c x y p q)
put_both l (Err u) a b c x y whole e p q = tt
