pub mod UnitTests
