-- What the kernels of a script read and leave (OpenACC 3.3, section 2.5, compute constructs).
use Rattle.std.specs.Prelude.{ℕ, List}
use Rattle.acc_base.specs.declared.items.Section.{Section}
use Rattle.acc_base.specs.Loans.{Leased}
use Rattle.acc_lend.specs.Images.{each_byte, added, flipped, number_image, summed}
use Rattle.acc_lend.specs.Loans.{section, with_section}
use Rattle.acc_read.specs.declared.kernels.ScriptKernel.{ScriptKernel}
use Rattle.acc_read.specs.declared.kernels.ScriptKernel.TheVariants as kernels

-- the section of host memory that a kernel reads; an empty one but for `plus`
abbrev pub source_of : ScriptKernel → Section
source_of (kernels.Add number) = record { start = 0; len = 0 }
source_of (kernels.Xor number) = record { start = 0; len = 0 }
source_of (kernels.Number number) = record { start = 0; len = 0 }
source_of (kernels.Plus source) = source

-- what a kernel leaves of the bytes of a loan, by the bytes of its source
abbrev pub image_of : ScriptKernel → List ℕ → List ℕ → List ℕ
image_of (kernels.Add number) bytes src = each_byte (added number) 0 bytes
image_of (kernels.Xor number) bytes src = each_byte (flipped number) 0 bytes
image_of (kernels.Number number) bytes src = each_byte (number_image number) 0 bytes
image_of (kernels.Plus source) bytes src = each_byte (summed src) 0 bytes

-- a lease over all of whose loan a kernel ran
abbrev pub kernel_run : ScriptKernel → Leased → List ℕ → Leased
kernel_run kernel lease src = with_section lease (image_of kernel (section lease) src)
