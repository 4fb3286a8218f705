-- What a call answers where another one answered it: its refusal, or memory, or its value.
use Rattle.std.proofs.Common.{◌≡◌, Option, Some, None, IfSome, IfErr, Result, Ok, Err, sym, subst}
use Rattle.std.proofs.lemmas.Option.{same_Some}
use Rattle.std.specs.Prelude.{option_map}
use Rattle.std.specs.Result.{result_map_both}
use Rattle.rbc_model.specs.Tracks.{Track}
use Rattle.rbc_model.specs.Trains.{Train}
use Rattle.rbc_scene_laws.specs.Good.{IsGoodTrain}
use Rattle.rbc_model.specs.Answers.{RefusesOrMemory}
use Rattle.rbc_model.specs.declared.memory.OrMemory.{OrMemory}
use Rattle.rbc_model.specs.declared.memory.OrMemory.TheVariants.{Refused, Memory}

-- what refuses one call refuses another, or memory was refused
pub refuses-weaker : {X Y E : Type 0} (fault : OrMemory E) (a : Result X E) (b : Result Y E) → ((refusal : E) → a ≡ Err refusal → b ≡ Err refusal) → RefusesOrMemory fault a → RefusesOrMemory fault b
refuses-weaker (Refused refusal) a b h r = h refusal r
refuses-weaker Memory a b h r = tt

-- a known train that is good on its own track is good on this one
pub known_good : {X : Type 0} (track_of : X → Track) (train_of : X → Train) (o : Option X) (track : Track) → IfSome o (λ x. track_of x ≡ track) → IfSome o (λ x. IsGoodTrain (track_of x) (train_of x))
    → (train : Train) → option_map train_of o ≡ Some train → IsGoodTrain track train
known_good track_of train_of None track same good train e = cc
known_good track_of train_of (Some x) track same good train e = subst (IsGoodTrain track) (same_Some (train_of x) train e) (subst (λ t. IsGoodTrain t (train_of x)) same good)

-- a fact of the refusal is one of the same refusal, where another value stands in place of the answer
pub refused-mapped : {X Y E : Type 0} (f : X → Y) (answer : Result X E) (P : E → Type 0) → IfErr answer P → IfErr (result_map_both f (λ (refusal : E). refusal) answer) P
refused-mapped f (Ok x) P h = tt
refused-mapped f (Err refusal) P h = h

-- and what follows from it
pub refused-told : {X E : Type 0} (answer : Result X E) (P Q : E → Type 0) → ((refusal : E) → P refusal → Q refusal) → IfErr answer P → IfErr answer Q
refused-told (Ok x) P Q f h = tt
refused-told (Err refusal) P Q f h = f refusal h

-- of an answer nothing is told
pub nothing-told : {X E : Type 0} (answer : Result X E) (x : X) (P : E → Type 0) → answer ≡ Ok x → IfErr answer P
nothing-told {X} {E} answer x P h = subst (λ (r : Result X E). IfErr r P) (sym h) tt

-- an answer that is given
abbrev pub gives : {X : Type 0} (E : Type 0) → X → Result X E
gives E x = Ok x

-- a refusal that is handed on
abbrev pub fails : {E : Type 0} (X : Type 0) → E → Result X E
fails X fault = Err fault

pub handed_on : {Y E : Type 0} (X : Type 0) (result : Result Y E) (given fault told : E) → result ≡ Err given → given ≡ fault → fails X fault ≡ fails X told → result ≡ Err told
handed_on X result given fault told e f h = cc
