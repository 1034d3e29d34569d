-- How a layout is stored, as the value of a model.
use Rattle.std.specs.Prelude.{ℕ, refl}
use Rattle.std.specs.Coded.{Coded, code_by, coded×, coded_ℕ, coded_list}
use Rattle.std.specs.FinMap as map
use Rattle.acc_read.specs.declared.arrays.Array.{Array}
use Rattle.acc_read.specs.Layout.{ArrayLayout, ArraysByName}

-- an array, as two numbers
abbrev pub array_code : Coded Array
array_code =
    code_by (ℕ × ℕ) (coded× coded_ℕ coded_ℕ) (λ a. (a.start, a.end)) (λ p. record { start = p.0; end = p.1 })
    (λ _. refl)

-- arrays by their names, as a stored map
abbrev pub names_code : Coded ArraysByName
names_code = map.code (coded_list coded_ℕ) array_code

-- a layout, as its names and two numbers
abbrev pub layout_code : Coded ArrayLayout
layout_code =
    code_by (ArraysByName × (ℕ × ℕ)) (coded× names_code (coded× coded_ℕ coded_ℕ)) (λ l. (l.names, (l.last_end, l.limit)))
    (λ p. record { names = p.0; last_end = p.1.0; limit = p.1.1 }) (λ _. refl)
