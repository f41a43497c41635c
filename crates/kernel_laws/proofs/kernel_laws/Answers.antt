use Rattle.kernel_laws.proofs.Kernels.{kernel_filled}
use Rattle.kernel_laws.proofs.kernel_laws.Goals as goal

pub returns : goal.returns
returns c = kernel_filled
