-- Answers that may be none, under a function.
use Rattle.std.proofs.Common.{◌≡◌, refl, Bool, true, false, cond, Option, Some, None}
use Rattle.std.specs.Prelude.{option_map, IsSome}
use Rattle.std.specs.Option.{option_or}

-- an answer that a test chooses before another one
pub some_mapped : {X Y : Type 0} (f : X → Y) (b : Bool) (x : X) (o : Option X) → option_map f (cond b (Some x) o) ≡ cond b (Some (f x)) (option_map f o)
some_mapped f true x o = refl
some_mapped f false x o = refl

-- none, which a test chooses before another answer
pub none_mapped : {X Y : Type 0} (f : X → Y) (b : Bool) (o : Option X) → option_map f (cond b None o) ≡ cond b None (option_map f o)
none_mapped f true o = refl
none_mapped f false o = refl

-- there is an answer after the function where there is one before
pub still_some : {X Y : Type 0} (f : X → Y) (o : Option X) → IsSome o → IsSome (option_map f o)
still_some f None some = cc
still_some f (Some x) some = refl

-- there was one where there is one after
pub from_some : {X Y : Type 0} (f : X → Y) (o : Option X) → IsSome (option_map f o) → IsSome o
from_some f None some = some
from_some f (Some x) some = refl

-- and none where there is none
pub from_none : {X Y : Type 0} (f : X → Y) (o : Option X) → option_map f o ≡ None → o ≡ None
from_none f None e = refl
from_none f (Some x) e = cc

-- one answer or else another
pub or_none : {X : Type 0} (o : Option X) → option_or o None ≡ o
or_none None = refl
or_none (Some x) = refl

pub or_or : {X : Type 0} (a b c : Option X) → option_or (option_or a b) c ≡ option_or a (option_or b c)
or_or None b c = refl
or_or (Some x) b c = refl
