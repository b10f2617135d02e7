-- What is true of every state of a run, as far as going on within an instruction rests on it; and of the images and harts that
-- runs begin with. This project's own.
use Rattle.std.specs.Prelude.{◌≡◌, ℕ, ◌%◌, true, false, All, IsTrue}
use Rattle.vx_base.specs.Options.{is_register_length}
use Rattle.vx_base.specs.Pages.{is_page_permission}
use Rattle.vx_base.specs.declared.machine.Want.TheVariants.{Fetch, Store}
use Rattle.vx_image.specs.Pages.{Image, MappedPage, permits}
use Rattle.vx_vstate.specs.State.{IsVectorState}
use Rattle.vx_flat.specs.State.{Flat}
use Rattle.vx_flat.specs.declared.hart.Hart.{Hart}

pub record IsWellFormed (s : Flat) : Type 0 where
  pub vectors : IsVectorState s.v
  -- words of instructions stand at multiples of four
  pub aligned : s.pc % 4 ≡ 0
  -- what can be executed can't be written
  pub code : (address : ℕ) → permits s.memory address Fetch ≡ true → permits s.memory address Store ≡ false

-- a page has permissions that pages may have
abbrev pub HasPermission : MappedPage → Type 0
HasPermission page = IsTrue (is_page_permission page.permissions)

pub record IsRunnable (hart : Hart) (image : Image) : Type 0 where
  pub length : IsTrue (is_register_length hart.vlen)
  pub entry : image.entry % 4 ≡ 0
  pub pages : All HasPermission image.pages
