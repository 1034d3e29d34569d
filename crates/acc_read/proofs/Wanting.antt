-- A line is right where it needs memory.
use Rattle.std.proofs.Common.{◌≡◌, Bool, true, List, Result, Ok, Err, refl, ℕ}
use Rattle.std.specs.Prelude.{codes, IsOk, IsOkAnd, IsTrue}
use Rattle.acc_base.specs.declared.faults.ScriptFault.{ScriptFault}
use Rattle.acc_base.specs.declared.directives.Directive.TheVariants.{Enter, EnterData, ExitData, Update}
use Rattle.acc_read.specs.Reading.{◌>>=◌}
use Rattle.acc_read.specs.Tokens.{keyword_at}
use Rattle.acc_read.specs.Layout.{ArrayLayout}
use Rattle.acc_read.specs.Grammar.{region_grammar, enter_grammar, exit_grammar, update_grammar}
use Rattle.acc_read.specs.Clauses.{clauses_at}
use Rattle.acc_read.specs.Statements.{Direct, takes_memory, data_at, enter_at, exit_at, update_at}

-- where the first of two steps is right, and the second makes of it what needs memory, both are right
wants_made : {A B : Type 0} (needs : B → Bool) (f : A → B) → ((x : A) → needs (f x) ≡ true) → (read : Result A ScriptFault)
    → IsOk read → IsOkAnd (read >>= (λ x. Ok (f x))) (λ y. IsTrue (needs y))
wants_made needs f h (Ok x) right = h x
wants_made needs f h (Err kind) right = absurd cc

-- the clauses of `data` are right where they need memory
pub data_wants : (layout : ArrayLayout) (device : ℕ) (text : List ℕ)
    → IsOk (clauses_at region_grammar layout text) → IsOkAnd (data_at layout device text) (λ meaning. IsTrue (takes_memory meaning))
unfolding data_at
data_wants layout device text right = wants_made takes_memory (λ read. Direct (Enter device read.items)) (λ read. refl) (clauses_at region_grammar layout text) right

-- the clauses of `enter data` are right where they need memory
pub enter_wants : (layout : ArrayLayout) (device : ℕ) (text rest : List ℕ) → keyword_at (codes "data") text ≡ Ok rest
    → IsOk (clauses_at enter_grammar layout rest) → IsOkAnd (enter_at layout device text) (λ meaning. IsTrue (takes_memory meaning))
unfolding enter_at
enter_wants layout device text rest e right = rw e (wants_made takes_memory (λ read. Direct (EnterData device read.items read.queue)) (λ read. refl) (clauses_at enter_grammar layout rest) right)

-- the clauses of `exit data` are right where they need memory
pub exit_wants : (layout : ArrayLayout) (device : ℕ) (text rest : List ℕ) → keyword_at (codes "data") text ≡ Ok rest
    → IsOk (clauses_at exit_grammar layout rest) → IsOkAnd (exit_at layout device text) (λ meaning. IsTrue (takes_memory meaning))
unfolding exit_at
exit_wants layout device text rest e right = rw e (wants_made takes_memory (λ read. Direct (ExitData device read.items read.has_option read.queue)) (λ read. refl) (clauses_at exit_grammar layout rest) right)

-- the clauses of `update` are right where they need memory
pub update_wants : (layout : ArrayLayout) (device : ℕ) (text : List ℕ)
    → IsOk (clauses_at update_grammar layout text) → IsOkAnd (update_at layout device text) (λ meaning. IsTrue (takes_memory meaning))
unfolding update_at
update_wants layout device text right = wants_made takes_memory (λ read. Direct (Update device read.items read.has_option read.queue)) (λ read. refl) (clauses_at update_grammar layout text) right
