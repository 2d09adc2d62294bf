-- `time::arithmetic::mul` meets its contract: the product of two numbers of 32 bits fits 64.
use Rattle.time.proofs.arithmetic.Product.{product_fits}
use borrow.Author.Rules.{rules}
use Rattle.time.proofs.arithmetic.mul.Goals as goal

pub overflow_mul-from : goal.overflow_mul-from
overflow_mul-from c = record { fits = product_fits 32 (search rules) (search rules) }
